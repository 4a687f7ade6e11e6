-- Words with a meaning of their own where a bit, a condition or half of a value is wanted (operand syntax of the
-- assembly language). All are in lower case.
use Rattle.std.specs.Prelude.{ℕ, List, Option, Some, None, codes, if◌then◌else◌}
use Rattle.std.specs.Str.{bytes_eq}
use Rattle.m88_base.specs.declared.fixup.Kind.{Kind}
use Rattle.m88_base.specs.declared.fixup.Kind.TheVariants.{Hi16, Lo16}

-- a bit of the word that cmp gives, by its name
unfoldable pub bit_named : List ℕ → Option ℕ
bit_named name =
    if bytes_eq name (codes "eq") then Some 2 else (if bytes_eq name (codes "ne") then Some 3
    else (if bytes_eq name (codes "gt") then Some 4 else (if bytes_eq name (codes "le") then Some 5
    else (if bytes_eq name (codes "lt") then Some 6 else (if bytes_eq name (codes "ge") then Some 7
    else (if bytes_eq name (codes "hi") then Some 8 else (if bytes_eq name (codes "ls") then Some 9
    else (if bytes_eq name (codes "lo") then Some 10 else (if bytes_eq name (codes "hs") then Some 11 else None)))))))))

-- the mask of a condition on a register's value, by its name
unfoldable pub condition_named : List ℕ → Option ℕ
condition_named name =
    if bytes_eq name (codes "eq0") then Some 2 else (if bytes_eq name (codes "ne0") then Some 13
    else (if bytes_eq name (codes "gt0") then Some 1 else (if bytes_eq name (codes "lt0") then Some 12
    else (if bytes_eq name (codes "ge0") then Some 3 else (if bytes_eq name (codes "le0") then Some 14 else None)))))

-- which half of a value is meant, the upper or the lower
unfoldable pub half_named : List ℕ → Option Kind
half_named name =
    if bytes_eq name (codes "hi16") then Some Hi16 else (if bytes_eq name (codes "lo16") then Some Lo16 else None)
