-- The listing of an image writes that image again, with its start.
use Rattle.std.proofs.Common.{◌≡◌, ℕ, ◌+◌, ◌<◌, ◌^◌, List, [], ◌∷◌, ◌++◌, length, inl, refl, sym, ap, subst, ◌∙◌, codes}
use Rattle.std.specs.Prelude.{IfSome, None, Option, Some, map}
use Rattle.m88_base.specs.Image.{IsImage, ProgramImage, byte_at, byte_count, parts}
use Rattle.m88_base.specs.Placed.{Placed}
use Rattle.m88_parse.specs.declared.unit.Body.TheVariants as body
use Rattle.m88_parse.specs.declared.unit.Statement.{Statement}
use Rattle.m88_link.specs.declared.object.Symbol.{Symbol}
use Rattle.m88_asm.specs.Counters.{at_begin}
use Rattle.m88_asm.specs.Objects.{labels_at}
use Rattle.m88_disasm.specs.Listing.{IsImageListing, start_line}
use Rattle.m88_disasm.specs.Read.{WritesImage, unlabelled}
use Rattle.m88_disasm.proofs.Bodies.{ArePieces, ListedParts, listed_parts, nothing_named, pieces_of}
use Rattle.m88_disasm.proofs.Built.{IsWritten, accepted, bytes_are, start_is}
use Rattle.m88_disasm.proofs.Given.{Data, Gives, Names, PartsData, a_set, more_data, more_parts, no_data, no_parts, no_set, parts_more}
use Rattle.m88_disasm.proofs.Linking.{in_order}
use Rattle.m88_disasm.proofs.Naming.{AreOnce, HasName, names_in, names_of}
use Rattle.m88_disasm.proofs.Rows.{unit_is, unit_of}
use Rattle.m88_disasm.proofs.Spoken.{said_start, spoken}

-- the listing names its start alone
abbrev only_start : ℕ → Names
only_start start name a = (name ≡ codes "_start") × (a ≡ start) × (a < 2 ^ 32)

-- the first statement
abbrev first : ℕ → Statement
first start = unlabelled 1 (body.Set (codes "_start") 6 start)

-- statements without labels name nothing
unnamed : (at : ℕ) (x : Statement) (given : List ℕ) → Gives nothing_named at x given → names_of x ≡ []
unnamed at x given g =
    ap (λ (ss : List Symbol). map (λ (s : Symbol). s.name) (labels_at at_begin x.line x.label ++ ss)) g.sets_none
    ∙ by x.label g.labelled
  where
    by : (label : Option (List ℕ × ℕ)) → IfSome label (λ l. ⊥)
        → map (λ (s : Symbol). s.name) (labels_at at_begin x.line label ++ []) ≡ []
    by None h = refl
    by (Some l) h = absurd h

data_unnamed : (at : ℕ) (bytes : List ℕ) (own more : List Statement) → Data nothing_named at bytes own
    → names_in more ≡ [] → names_in (own ++ more) ≡ []
data_unnamed at _ _ more no_data rest = rest
data_unnamed at bytes _ more (more_data {x = x} {xs = xs} given left are gives tail) rest =
    ap (λ (ns : List (List ℕ)). ns ++ names_in (xs ++ more)) (unnamed at x given gives)
    ∙ data_unnamed (at + length given) left xs more tail rest

parts_unnamed : (runs : List Placed) (xs : List Statement) → PartsData nothing_named runs xs → names_in xs ≡ []
parts_unnamed _ _ no_parts = refl
parts_unnamed _ xs (more_parts {run = run} {runs = runs} n own more are datas others) =
    ap names_in are ∙ data_unnamed run.at run.bytes own more datas (parts_unnamed runs more others)

-- what a listing is made of
written : (image : ProgramImage) (lines : List (List ℕ)) → IsImage image → ArePieces (parts image)
    → (l : ListedParts 2 (parts image) lines)
    → IsWritten (only_start image.start) image.start (parts image) (first image.start ∷ []) l.statements
unfolding byte_at byte_count
written image lines is pieces l =
    let names : names_in (first image.start ∷ l.statements) ≡ codes "_start" ∷ [] =
    ap (λ (ns : List (List ℕ)). let ms : List (List ℕ) = codes "_start" ∷ ns in ms)
    (parts_unnamed (parts image) l.statements l.datas) in
    record {
      are_sets = a_set 1 (codes "_start") 6 image.start (refl, refl, is.start) no_set;
      datas = parts_more nothing_named (only_start image.start) (parts image) l.statements (λ name a h. absurd h) l.datas;
      low = λ name a h. h.2;
      one = λ name a b h k. h.1 ∙ sym k.1;
      once = subst (AreOnce []) (sym names) (tt, tt);
      defined = λ name a h. subst (HasName name) (sym names) (inl (sym h.0));
      starts = (refl, refl, is.start);
      pieces = pieces;
      order = in_order 0 (parts image) is.apart;
      few = is.few;
    }

-- the listing writes the image
pub listing_again : (image : ProgramImage) (text : List ℕ) → IsImage image → IsImageListing image text
    → WritesImage text image
unfolding byte_at byte_count
listing_again image text is listed =
    let runs : List Placed = parts image in
    let pieces : ArePieces runs = pieces_of 0 runs is.apart is.bytes in
    let l : ListedParts 2 runs listed.lines = listed_parts 2 runs listed.lines pieces listed.are_lines in
    let sets : List Statement = first image.start ∷ [] in
    let w : IsWritten (only_start image.start) image.start runs sets l.statements =
    written image listed.lines is pieces l in
    record {
      unit = unit_of (sets ++ l.statements);
      is_unit =
          unit_is (start_line image.start ∷ listed.lines) (sets ++ l.statements) text listed.text_is (
            spoken 1 (start_line image.start) (body.Set (codes "_start") 6 image.start)
                (said_start 1 image.start is.start),
            l.stated,
          );
      accepted = accepted (only_start image.start) image.start runs sets l.statements w;
      bytes = λ a. bytes_are (only_start image.start) image.start runs sets l.statements a w;
      start = start_is (only_start image.start) image.start runs sets l.statements w;
    }
