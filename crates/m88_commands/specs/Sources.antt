-- An input of one to eight sources, parted by its lines `program`: which such inputs are accepted, and where and why
-- any other is refused.
use Rattle.std.specs.Prelude.{ℕ, List}
use Rattle.m88_base.specs.Refusal.{Refusal}
use Rattle.m88_asm.specs.Several.{HasPrograms, LacksPrograms}
use Rattle.m88_tasks.specs.Tasks.{most_programs}

-- the most sources of an input: as many as programs may share a board
abbrev pub most_sources : ℕ
most_sources = most_programs

-- the input is one to eight sources, each of which can be assembled and linked
abbrev pub IsSourcesInput : List ℕ → Type 0
IsSourcesInput input = HasPrograms most_sources input

-- or it is refused: where it has a ninth source, at the eighth line `program`, and else at the first fault of the first
-- source that can't be assembled and linked
abbrev pub IsRefusedSources : List ℕ → Refusal → Type 0
IsRefusedSources input r = LacksPrograms most_sources input r
