-- A statement in another line.
use Rattle.std.proofs.Common.{ℕ, List}
use Rattle.m88_parse.specs.Language.Pieces.{Piece}
use Rattle.m88_parse.specs.Language.Statements.{IsStatement, label_alone, labelled, unlabelled}
use Rattle.m88_parse.specs.declared.unit.Statement.{Statement}

abbrev pub in_line : ℕ → Statement → Statement
in_line number x = record { line = number; label = x.label; col = x.col; body = x.body }

pub said_in : (n m : ℕ) (tokens : List Piece) (x : Statement) → IsStatement n tokens x
    → IsStatement m tokens (in_line m x)
said_in n m _ _ (unlabelled is_body no_colon) = unlabelled is_body no_colon
said_in n m _ _ (labelled is_label is_body) = labelled is_label is_body
said_in n m _ _ (label_alone is_label) = label_alone is_label
