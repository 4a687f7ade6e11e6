-- Where and why an input is refused, and the line that says so.
use Rattle.std.specs.Prelude.{ℕ, List}
use Rattle.m88_base.specs.Refused.{refused_line}

-- the line and the column, both from 1, and the reason as it is written
pub record Refusal : Type 0 where
  pub line : ℕ
  pub column : ℕ
  pub reason : List ℕ

-- the line that says so
abbrev pub refusal_line : Refusal → List ℕ
refusal_line r = refused_line r.line r.column r.reason
