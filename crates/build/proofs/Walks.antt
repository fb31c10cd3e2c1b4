-- Walks over the delivery points that are packed, one more at a time: marking, summing up the organisations, writing.
-- Assumes nothing.
use Prim.Native.Nat.{ℕ, suc, ◌+◌, ◌≤◌}
use mathlib.Core.Path.{◌≡◌, refl, sym, ap, subst, ◌∙◌}
use mathlib.Core.Bool.{Bool, true, false, cond}
use mathlib.Core.List.{List, [], ◌∷◌}
use native.Mathlib.Omega.{arith}
use native.Mathlib.Nat.{zero-add}
use lib.ListN.{length, length-append}
use Rattle.refusal.specs.Refusal.{with_view}
use Rattle.refusal.specs.declared.Reason.{Reason}
use Rattle.source.specs.Delivery.{refusal_in}
use Rattle.shelf.specs.Stock.{Stock}
use Rattle.label.specs.Put.{Put}
use Rattle.label.proofs.Going.{Going, going-room, going_step}
use Rattle.build.specs.Plan.{Packed, rows_of, first_refused, mark_rows, mark_all, organisation_row, organisation_rows, organisation_count}
use Rattle.build.specs.Bytes.{point_in, points_in}
use Rattle.std.specs.Prelude.{Err}
use Rattle.refusal.specs.Verdict.{fine}

-- of all, `left` are to look at yet: none before them is refused, and what those refer to is marked
pub record Marking (st : Stock) (all : List Packed) (entry : List ℕ) (left : List Packed) (marks : List ℕ) : Type 0 where
  pub refused : first_refused st all ≡ first_refused st left
  pub marked : mark_all st all entry ≡ mark_all st left marks

pub marking-start : (st : Stock) (all : List Packed) (entry : List ℕ) → Marking st all entry all entry
marking-start st all entry = record { refused = refl; marked = refl }

module _ {st : Stock} {all : List Packed} {entry marks : List ℕ} where
  pub marking-as : {left more : List Packed} → left ≡ more → Marking st all entry left marks
      → Marking st all entry more marks
  marking-as e m = subst (λ (ds : List Packed). Marking st all entry ds marks) e m

  module _ {d : Packed} {ds : List Packed} (m : Marking st all entry (d ∷ ds) marks) where
    pub marking-stop : (why : Reason) → refusal_in d.point (rows_of st d.point) ≡ Err why
        → first_refused st all ≡ Err (with_view d.view why)
    marking-stop why e = m.refused ∙ simp e

    pub marking-on : {next : List ℕ} → refusal_in d.point (rows_of st d.point) ≡ fine
        → next ≡ mark_rows (rows_of st d.point) marks → Marking st all entry ds next
    marking-on e is =
        record { refused = m.refused ∙ simp e; marked = m.marked ∙ ap (mark_all st ds) (sym is) }

  pub marking-end : Marking st all entry [] marks → (fine ≡ first_refused st all) × (marks ≡ mark_all st all entry)
  marking-end m = (sym m.refused, sym m.marked)

-- of all, `left` are to count yet: those before them have so many organisations, in so many bytes
pub record Summing (others : List ℕ) (all left : List Packed) (rows bytes : ℕ) : Type 0 where
  pub count : organisation_count all ≡ rows + organisation_count left
  pub size : length (organisation_rows others all) ≡ bytes + length (organisation_rows others left)

pub summing_start : (others : List ℕ) (all : List Packed) → Summing others all all 0 0
summing_start others all = record { count = sym (zero-add _); size = sym (zero-add _) }

module _ {others : List ℕ} {all : List Packed} {rows bytes : ℕ} where
  pub summing-as : {left more : List Packed} → left ≡ more → Summing others all left rows bytes
      → Summing others all more rows bytes
  summing-as e m = subst (λ (ds : List Packed). Summing others all ds rows bytes) e m

  pub summing_on : {d : Packed} {ds : List Packed} {one len : ℕ} → Summing others all (d ∷ ds) rows bytes
      → one ≡ cond d.point.organised 1 0 → len ≡ length (organisation_row others d.point)
      → Summing others all ds (rows + one) (bytes + len)
  summing_on {d} {ds} {one} {len} m e f =
      record {
        count = omega (arith, m.count, e, by-test d.point.organised);
        size =
            omega (arith, m.size, f, length-append (organisation_row others d.point) (organisation_rows others ds));
      }
    where
      by-test : (t : Bool)
          → cond t (suc (organisation_count ds)) (organisation_count ds) ≡ cond t 1 0 + organisation_count ds
      by-test true = omega arith
      by-test false = omega arith

  pub summing-end : Summing others all [] rows bytes
      → (rows ≡ organisation_count all) × (bytes ≡ length (organisation_rows others all))
  summing-end m = (omega (arith, m.count), omega (arith, m.size))

-- how long the organisations' rows are from one on
pub organisations-length : (others : List ℕ) {ds : List Packed} (d : Packed) (more : List Packed) → ds ≡ d ∷ more
    → length (organisation_rows others ds)
    ≡ length (organisation_row others d.point) + length (organisation_rows others more)
organisations-length others d more e =
    ap (λ (ps : List Packed). length (organisation_rows others ps)) e
    ∙ length-append (organisation_row others d.point) (organisation_rows others more)

-- writing: room for the next one, and what is left behind it
module _ {whole o x : List ℕ} {s i : ℕ} (d : Packed) (ds : List Packed) (h : s + length whole ≤ length o) where
  module _ (others : List ℕ) (g : Going whole (organisation_rows others (d ∷ ds)) o s i x) where
    pub organisation-room : i + length (organisation_row others d.point) ≤ length x
    organisation-room = going-room (organisation_row others d.point) (organisation_rows others ds) g h

    pub organisation-on : {y : List ℕ} {r : ℕ} → Put (organisation_row others d.point) x i r y
        → Going whole (organisation_rows others ds) o s r y
    organisation-on v = going_step (organisation_rows others ds) g v h

  -- its organisation's row would stand at `at`
  module _ (st : Stock) (own others starts : List ℕ) (at : ℕ)
      (g : Going whole (points_in st own others starts at (d ∷ ds)) o s i x) where
    pub point-room : i + length (point_in own starts d.point (rows_of st d.point) at) ≤ length x
    point-room =
        going-room (point_in own starts d.point (rows_of st d.point) at)
        (points_in st own others starts (at + length (organisation_row others d.point)) ds) g h

    pub point-on : {y : List ℕ} {r len : ℕ} → len ≡ length (organisation_row others d.point)
        → Put (point_in own starts d.point (rows_of st d.point) at) x i r y
        → Going whole (points_in st own others starts (at + len) ds) o s r y
    point-on e v =
        rw e (going_step (points_in st own others starts (at + length (organisation_row others d.point)) ds) g v h)
