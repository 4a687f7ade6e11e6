-- Where one more run fits among others, and what runs become once bytes are placed among them.
use Rattle.std.specs.Prelude.{◌≡◌, ℕ, ◌+◌, ◌-◌, ◌^◌, ◌<◌, ◌≤◌, leb, true, false, List, [], ◌∷◌, length, take, drop, slice_index_or, All, Result, OnOk, OnErr}
use Rattle.std.specs.List.Sorted.{IsPartitionPoint}
use Rattle.m88_base.specs.Found.{PutsBytes}
use Rattle.m88_base.specs.Placed.{Placed, byte_among, count_among, AreApart}

-- the first address at which one more run may begin, `from` where there are no runs
abbrev pub next_start : ℕ → List Placed → ℕ
next_start from [] = from
next_start from (run ∷ runs) = next_start (run.at + length run.bytes + 1) runs

-- the runs end ahead of the address
abbrev pub EndsBy : ℕ → List Placed → Type 0
EndsBy a runs = next_start 0 runs ≤ a + 1

-- the last run ends just ahead of the address
abbrev pub EndsAt : ℕ → List Placed → Type 0
EndsAt a runs = next_start 0 runs ≡ a + 1

-- the runs end ahead of the address, and one more address or more lies between
abbrev pub EndsBelow : ℕ → List Placed → Type 0
EndsBelow a runs = next_start 0 runs ≤ a

-- the first run begins at the address
abbrev pub BeginsAt : ℕ → List Placed → Type 0
BeginsAt a [] = ⊥
BeginsAt a (run ∷ runs) = run.at ≡ a

-- the runs begin behind the address
abbrev pub BeginsAbove : ℕ → List Placed → Type 0
BeginsAbove a runs = AreApart (a + 1) runs

-- as many of the items as the index have keys that are at most such a number, and those stand ahead of the others
pub record IsCutBy {A : Type 0} (key : A → ℕ) (items : List A) (most index : ℕ) : Type 0 where
  pub bound : index ≤ length items
  pub parted : IsPartitionPoint (λ item. leb (key item) most ≡ true) (λ item. leb (key item) most ≡ false) items index

-- as many runs as the index begin at or below the address
pub record IsCut (runs : List Placed) (index at : ℕ) : Type 0 where
  pub bound : index ≤ length runs
  pub below : All (λ run. run.at ≤ at) (take index runs)
  pub above : AreApart (at + 1) (drop index runs)

-- the run is the last that begins at or below the address
pub record IsLastBy (runs : List Placed) (at : ℕ) (run : Placed) : Type 0 where
  pub from : run.at ≤ at
  pub index : ℕ
  pub some : 0 < index
  pub cut : IsCut runs index at
  pub is : run ≡ slice_index_or runs (index - 1) run

-- as many runs as the index begin at or below the address, and behind those one more may begin from `start` on; n
-- addresses from that address on, at least one, are looked at
pub record IsSought (runs : List Placed) (index start at n : ℕ) : Type 0 where
  pub next : start ≡ next_start 0 (take index runs)
  pub cut : IsCut runs index at
  pub some : 0 < n
  pub fits : at + n ≤ 2 ^ 32

-- n addresses from `at` on, at least one, lie between the runs below the index and the others: the first fact says
-- where the former end, the second where the latter begin
pub record StandsBetween (Ends Begins : ℕ → List Placed → Type 0) (runs : List Placed) (index at n : ℕ) : Type 0 where
  pub within : index ≤ length runs
  pub above : Ends at (take index runs)
  pub below : Begins (at + n) (drop index runs)
  pub some : 0 < n
  pub fits : at + n ≤ 2 ^ 32

-- runs that are others with the bytes put at the addresses from `at` on
pub record Places (old new : List Placed) (at : ℕ) (bytes : List ℕ) : Type 0 where
  pub puts : PutsBytes (byte_among old) (byte_among new) at bytes
  pub apart : AreApart 0 new
  pub count : count_among new ≡ count_among old + length bytes

-- bytes are placed among the runs, or else nothing is changed
pub record AnswersPlacing {T E : Type 0} (result : Result T E) (old new : List Placed) (at : ℕ)
    (bytes : List ℕ) : Type 0 where
  pub ok : OnOk result (Places old new at bytes)
  pub err : OnErr result (new ≡ old)
