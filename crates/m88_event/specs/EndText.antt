-- How a run ended, as texts tell it (the format of reports, docs/FORMATS.md).
use Rattle.std.specs.Prelude.{ℕ, List, ◌++◌, codes, decimal}
use Rattle.m88_base.specs.Hex.{hex8}
use Rattle.m88_base.specs.Lines.{line_end}
use Rattle.m88_event.specs.declared.happened.End.{End}
use Rattle.m88_event.specs.declared.happened.End.TheVariants.{Limit, Exit, Vector}

-- how a run ended, in words: at its limit, or by its own exit or a vector at an address
unfoldable pub end_text : End → List ℕ
end_text Limit = codes "limit"
end_text (Exit at) = codes "exit at " ++ hex8 at
end_text (Vector vector at) = codes "vector " ++ decimal vector ++ codes " at " ++ hex8 at

-- the line that says how a run ended
abbrev pub run_end_line : End → List ℕ
run_end_line end = codes "end " ++ end_text end ++ line_end
