-- The directives by name; .module is none of them, since it begins a module.
use Rattle.std.specs.Prelude.{ℕ, List, [], ◌∷◌, Option, codes, find}
use Rattle.std.specs.Str.{bytes_eq}
use Rattle.m88_parse.specs.declared.directive.Directive.{Directive}
use Rattle.m88_parse.specs.declared.directive.Directive.TheVariants.{Text, Data, At, Word, Half, Byte, Ascii, Zero, Align, Global, Set}

-- the name of a directive
unfoldable pub directive_text : Directive → List ℕ
directive_text Text = codes ".text"
directive_text Data = codes ".data"
directive_text At = codes ".at"
directive_text Word = codes ".word"
directive_text Half = codes ".half"
directive_text Byte = codes ".byte"
directive_text Ascii = codes ".ascii"
directive_text Zero = codes ".zero"
directive_text Align = codes ".align"
directive_text Global = codes ".global"
directive_text Set = codes ".set"

-- all directives, those first that stand on most lines
unfoldable pub all_directives : List Directive
all_directives = Word ∷ Byte ∷ At ∷ Half ∷ Ascii ∷ Zero ∷ Align ∷ Text ∷ Data ∷ Global ∷ Set ∷ []

-- the directive of this name
abbrev pub directive_of : List ℕ → Option Directive
directive_of name = find (λ d. bytes_eq (directive_text d) name) all_directives
