-- Demand 2: a file or a pack is answered with a value exactly where document 01's reading accepts it, a label exactly where
-- there is one and it fits; what an item of a listing holds and what the list of codes says; and no label is longer than
-- document 01 says.
-- Assumes nothing.
use Prim.Native.Nat.{ℕ, ◌*◌, ◌≤◌, ◌<◌}
use mathlib.Core.Path.{◌≡◌, refl, sym, ap, subst, ◌∙◌}
use mathlib.Core.Bool.{Bool, true, false}
use mathlib.Core.List.{List, [], ◌∷◌, ◌++◌}
use mathlib.Core.Logic.{◌⊎◌, inl, inr}
use mathlib.Core.Option.{Option, none, some}
use native.Mathlib.Omega.{arith}
use borrow.Author.Tests.{eqb-true, eqb-false, leb-true, leb-false}
use lib.Dec.{eqb, leb}
use lib.ListN.{length}
use Rattle.field_outward.specs.Outward.{outward_fault}
use Rattle.refusal.specs.declared.Reason.{Reason}
use Rattle.refusal.specs.declared.Reason.TheVariants.{Combination, MissingKey}
use Rattle.refusal.specs.Outcome.{Outcome, said, afterwards}
use Rattle.refusal.proofs.Answers.{refused-value}
use Rattle.refusal.proofs.Outcomes.{answer-of, afterwards-value, afterwards-refused}
use Rattle.source.specs.Address.{Lookup, Address, Elements}
use Rattle.source.specs.Resolve.{Resolved, forbidden, missing, elements_of, resolve}
use Rattle.source.specs.Same.{AllOf}
use Rattle.source.proofs.Cases.{Resolving, mixed, lacking, fine, resolving}
use Rattle.file.specs.Check.{Format, records, checked}
use Rattle.file.specs.Formats.{table_format, point_format}
use Rattle.file.specs.Mainfile.{addresses}
use Rattle.file.specs.Accepted.{Accepted}
use Rattle.file.proofs.Accepted.{accepted, accepts}
use Rattle.label.specs.Label.{room_outcome, resolved_outcome}
use Rattle.label.specs.Widths.{Fits}
use Rattle.label.proofs.Room.{Fitting, fits, short, fitting}
use Rattle.label.proofs.Bounds.{at-most-11-lines, at-most-499, each_line}
use Rattle.item.specs.Lines.{point_line, byte_text, refused_text, refused_line}
use Rattle.item.specs.Item.{resolved_text, item_outcome}
use Rattle.ask.specs.Source.{Source, in_code}
use Rattle.ask.specs.Labels.{kth, label_outcome, kth_label, view_label, code_label}
use Rattle.ask.specs.Lists.{resolved_of, kth_item, view_item, code_item, views_listed, code_listed, heading_or, headings, views_list, code_list}
use Rattle.ask.proofs.Laws.{by-good-code, by-bad-code, by-refused}
use Rattle.pack.specs.Opening.{point_count, trailer_good, all_rows_good, all_points_good, all_counts_good, opened}
use Rattle.pack.specs.Points.{is_point, point_label, pack_label, point_item, pack_item}
use Rattle.pack_items.specs.Lists.{pack_listed, pack_list}
use Rattle.pack_open.specs.Opened.{Opened}
use Rattle.pack_open.proofs.Opened.{opened-all}
use Rattle.pack_open.proofs.Fits.{point-fits}
use Rattle.changes_source.specs.Rows.{table_lookup}
use Rattle.changes_source.specs.Addresses.{addresses_in}
use Rattle.changes_label.proofs.Fits.{views-fit}
use Rattle.tally.specs.Tally.{Entry}
use Rattle.tally_bytes.specs.Entries.{entry_bytes, entries_outcome}
use Rattle.tally_bytes.proofs.Entries.{entries-long, fits as entries_fit, falls-short}
use Rattle.changes_codes.specs.Codes.{codes_in, codes_outcome}
use Rattle.changes_codes.specs.Told.{Told}
use Rattle.changes_codes.proofs.Told.{codes-told}
use Rattle.mainfile.specs.Set.{Set}
use Rattle.mainfile.specs.Accepted.{AcceptedSet}
use Rattle.mainfile.specs.Rows.{set_lookup}
use Rattle.mainfile.specs.Addresses as Main
use Rattle.mainfile_codes.specs.Codes as MainCodes
use Rattle.mainfile_codes.specs.Told as MainTold
use Rattle.demands.specs.Two.{label_for, Printing, no_number, forbidden_mix, key_missing, no_room, printed, ViewAsked, CodeAsked, label_at, PointAsked, refused_as, Under, a_label, a_rule, a_field, ItemAsked, PointListed, listed, InTurn, CodesAsked, CodesOfPoints, CodesOfAddresses, file_refused, files_refused, code_refused, pack_refused, taken, Exactly, Taken, Prints, text_for, ViewExactly, CodeExactly, PointExactly, Bounded, AllBounded, PointsBounded}
use Rattle.std.specs.Prelude.{Ok, Err}
use Rattle.refusal.specs.Answer.{Answer, refusal}
use Rattle.mainfile_sound.proofs.Lengths.{views-fit as addresses-fit}
use Rattle.mainfile_codes.proofs.Told.{codes-told as addresses-told}

-- ---- files and packs

-- a table file or a point file; the value is how many records it has
pub accepted-file : (f : Format) (file : List ℕ) → Accepted f file → checked f file ≡ Ok (records f file)
accepted-file f file a = accepts f file a

pub file-accepted : (f : Format) (file : List ℕ) (n : ℕ) → checked f file ≡ Ok n → Accepted f file
file-accepted f file n e = accepted f file n e

-- a pack; the value is how many points it has
pub accepted-pack : (pack : List ℕ) → trailer_good pack ≡ true → all_rows_good pack ≡ true → all_points_good pack ≡ true
    → all_counts_good pack ≡ true
    → opened pack ≡ Ok (point_count pack)
unfolding opened
accepted-pack pack trailer rows points counts = simp (trailer, rows, points, counts)

pub pack-accepted : (pack : List ℕ) (n : ℕ) → opened pack ≡ Ok n → Opened pack n
pack-accepted pack n e = opened-all pack n e

-- ---- labels of a source

module _ (look : Lookup) (views : List Address) (k : ℕ) (out : List ℕ) where
  pub printing : Printing look views k out (kth_label look views k out)
  unfolding kth_label
  printing = by-found (kth views k) refl
    where
      -- what the address that was found comes to
      found : (a : Address) {r : Resolved} → kth views k ≡ some a → resolve look a ≡ r
          → kth_label look views k out ≡ resolved_outcome r out
      found a e is =
          ap (λ (f : Option Address). label_outcome look f out) e ∙ ap (λ (r : Resolved). resolved_outcome r out) is

      by_address : (a : Address) → kth views k ≡ some a → Resolving look a → Fitting (label_for look a) out
          → Printing look views k out (kth_label look views k out)
      by_address a e (mixed p is) room = forbidden_mix a e p (found a e is)
      by_address a e (lacking p q is) room = key_missing a e p q (found a e is)
      by_address a e (fine p q is) (fits h at) = printed a e (p, q) h (found a e is ∙ at)
      by_address a e (fine p q is) (short h at) = no_room a e (p, q) h (found a e is ∙ at)

      by-found : (f : Option Address) → kth views k ≡ f → Printing look views k out (kth_label look views k out)
      by-found none e = no_number e (ap (λ (f : Option Address). label_outcome look f out) e)
      by-found (some a) e = by_address a e (resolving look a) (fitting (label_for look a) out)

module _ (s : Source) (out : List ℕ) where
  pub view-asked : (view : ℕ) → ViewAsked s view out
  unfolding view_label
  view-asked view = by-judged s.judged refl
    where
      by-judged : (j : Answer) → s.judged ≡ j → ViewAsked s view out
      by-judged (Ok n) e =
          taken e
          (subst (Printing s.look s.views view out) (sym (afterwards-value refusal out _ e))
          (printing s.look s.views view out))
      by-judged (Err r) e = files_refused e (afterwards-refused refusal out _ e)

  module _ (code : List ℕ) (k : ℕ) where
    pub code-asked : CodeAsked s code k out
    unfolding code_label
    code-asked = by-judged s.judged refl
      where
        by_code : {n : ℕ} → s.judged ≡ Ok n → (t : Bool) → eqb (outward_fault code) 0 ≡ t → CodeAsked s code k out
        by_code e true c =
            let clean = eqb-true (outward_fault code) 0 c in
            taken e clean
            (subst (Printing s.look (in_code code s.live) k out) (sym (by-good-code refusal code out _ s e clean))
            (printing s.look (in_code code s.live) k out))
        by_code e false c =
            let fault = eqb-false (outward_fault code) 0 c in code_refused e fault (by-bad-code refusal code out _ s e fault)

        by-judged : (j : Answer) → s.judged ≡ j → CodeAsked s code k out
        by-judged (Ok n) e = by_code e (eqb (outward_fault code) 0) refl
        by-judged (Err r) e = files_refused e (by-refused refusal code out _ s e)

-- ---- labels of a pack

-- whether a pack that opens has a point of that number
pub data There (pack : List ℕ) (n k : ℕ) : Type 0 where
  a_point : 1 ≤ k → k ≤ n → is_point pack k ≡ true → There pack n k
  no-point : (k < 1) ⊎ (n < k) → is_point pack k ≡ false → There pack n k

pub point-there : (pack : List ℕ) {n : ℕ} (k : ℕ) → opened pack ≡ Ok n → There pack n k
point-there pack {n} k e = by_tests (opened-all pack n e).counted (leb 1 k) (leb k (point_count pack)) refl refl
  where
    by_tests : n ≡ point_count pack → (t u : Bool) → leb 1 k ≡ t → leb k (point_count pack) ≡ u → There pack n k
    by_tests c true true p q =
        a_point (leb-true 1 k p) (omega (arith, leb-true k (point_count pack) q)) (rw (p, q))
    by_tests c true false p q = no-point (inr (omega (arith, leb-false k (point_count pack) q))) (rw (p, q))
    by_tests c false u p q = no-point (inl (leb-false 1 k p)) (rw p)

module _ (pack : List ℕ) (k : ℕ) (out : List ℕ) where
  pub point-asked : PointAsked pack k out
  unfolding pack_label point_label
  point-asked = by-opened (opened pack) refl
    where
      point : {n : ℕ} → opened pack ≡ Ok n → pack_label pack k out ≡ point_label pack k out
      point e = afterwards-value refusal out _ e

      by-room : {n : ℕ} → opened pack ≡ Ok n → 1 ≤ k → k ≤ n → is_point pack k ≡ true → Fitting (label_at pack k) out
          → PointAsked pack k out
      by-room e low high t (fits h is) = printed e low high h (point e ∙ (rw t is))
      by-room e low high t (short h is) = no_room e low high h (point e ∙ (rw t is))

      by-point : {n : ℕ} → opened pack ≡ Ok n → There pack n k → PointAsked pack k out
      by-point e (a_point low high t) = by-room e low high t (fitting (label_at pack k) out)
      by-point e (no-point h t) = no_number e h (point e ∙ rw t)

      by-opened : (o : Answer) → opened pack ≡ o → PointAsked pack k out
      by-opened (Ok n) e = by-point e (point-there pack k e)
      by-opened (Err r) e = pack_refused e (afterwards-refused refusal out _ e)

-- ---- items of a listing

-- the lines of 8 and 9
pub rule-line : (rule : ℕ) → refused_line (Combination rule 0) ≡ refused_as 8 rule
unfolding refused_text byte_text
rule-line rule = refl

field-line : (field : ℕ) → refused_line (MissingKey field 0) ≡ refused_as 9 field
unfolding refused_text byte_text
field-line field = refl

module _ (heading : Address → List ℕ) (look : Lookup) (views : List Address) (k : ℕ) (out : List ℕ) where
  abbrev asked : Outcome Answer
  asked = kth_item (headings heading views) look views k out

  item-asked : ItemAsked heading look views k out asked
  unfolding kth_item
  item-asked = by-found (kth views k) refl
    where
      by-room : (a : Address) (text : List ℕ) → kth views k ≡ some a → Under look a text
          → asked ≡ room_outcome (heading a ++ text) out
          → Fitting (heading a ++ text) out
          → ItemAsked heading look views k out asked
      by-room a text e u is (fits h at) = listed a text e u h (is ∙ at)
      by-room a text e u is (short h at) = no_room a text e u h (is ∙ at)

      -- what the address that was found comes to
      found : (a : Address) {r : Resolved} (text : List ℕ) → kth views k ≡ some a → resolve look a ≡ r
          → resolved_text r ≡ text
          → Under look a text
          → ItemAsked heading look views k out asked
      found a text e is says u =
          by-room a text e u
          (ap (λ (f : Option Address). item_outcome (heading_or heading f) (resolved_of look f) out) e
          ∙ ap (λ (l : List ℕ). room_outcome (heading a ++ l) out) (ap resolved_text is ∙ says))
          (fitting (heading a ++ text) out)

      by_address : (a : Address) → kth views k ≡ some a → Resolving look a → ItemAsked heading look views k out asked
      by_address a e (mixed p is) = found a _ e is (rule-line (forbidden a)) (a_rule p refl)
      by_address a e (lacking p q is) = found a _ e is (field-line (missing look a)) (a_field p q refl)
      by_address a e (fine p q is) = found a _ e is refl (a_label (p, q) refl)

      by-found : (f : Option Address) → kth views k ≡ f → ItemAsked heading look views k out asked
      by-found none e =
          no_number e (ap (λ (f : Option Address). item_outcome (heading_or heading f) (resolved_of look f) out) e)
      by-found (some a) e = by_address a e (resolving look a)

-- under the source's own headings, files and code being accepted
module _ (s : Source) {n : ℕ} (taken : s.judged ≡ Ok n) where
  pub views-listed : InTurn (ItemAsked s.heading s.look s.views) (views_list s)
  unfolding views_list views_listed view_item
  views-listed =
      record {
        item = view_item (headings s.heading s.views) s;
        each = λ k out.
            subst (ItemAsked s.heading s.look s.views k out) (sym (afterwards-value refusal out _ taken))
            (item-asked s.heading s.look s.views k out);
        in_turn = λ first count out. afterwards-value refusal out _ taken;
      }

  pub code-listed : (code : List ℕ) → outward_fault code ≡ 0
      → InTurn (ItemAsked s.heading s.look (in_code code s.live)) (code_list s code)
  unfolding code_list code_listed code_item
  code-listed code clean =
      let views = in_code code s.live in
      record {
        item = code_item (headings s.heading views) s code;
        each = λ k out.
            subst (ItemAsked s.heading s.look views k out) (sym (by-good-code refusal code out _ s taken clean))
            (item-asked s.heading s.look views k out);
        in_turn = λ first count out. by-good-code refusal code out _ s taken clean;
      }

module _ (pack : List ℕ) {n : ℕ} (opens : opened pack ≡ Ok n) where
  point-listed : (k : ℕ) (out : List ℕ) → PointListed pack n k out (pack_item point_line pack k out)
  unfolding pack_item point_item
  point-listed k out = by-point (point-there pack k opens)
    where
      point : pack_item point_line pack k out ≡ point_item point_line pack k out
      point = afterwards-value refusal out _ opens

      by-room : 1 ≤ k → k ≤ n → is_point pack k ≡ true → Fitting (point_line k ++ label_at pack k) out
          → PointListed pack n k out (pack_item point_line pack k out)
      by-room low high t (fits h is) = listed low high h (point ∙ (rw t is))
      by-room low high t (short h is) = no_room low high h (point ∙ (rw t is))

      by-point : There pack n k → PointListed pack n k out (pack_item point_line pack k out)
      by-point (a_point low high t) = by-room low high t (fitting (point_line k ++ label_at pack k) out)
      by-point (no-point h t) = no_number h (point ∙ rw t)

  pub points-listed : InTurn (PointListed pack n) (pack_list pack)
  unfolding pack_list pack_listed
  points-listed =
      record {
        item = pack_item point_line pack;
        each = point-listed;
        in_turn = λ first count out. afterwards-value refusal out _ opens;
      }

-- ---- the list of codes

-- the file's own refusal first, then its entries, of which something is told where it is accepted
module _ (f : Format) (file : List ℕ) (Telling : List Entry → Type 0) (es : List Entry) (out : List ℕ)
    (told : Accepted f file → Telling es) where
  abbrev answered : Outcome Answer
  answered = afterwards refusal (checked f file) out (entries_outcome es out)

  abbrev Asked : Type 0
  Asked = CodesAsked f file Telling es out answered

  entries-asked : Asked
  entries-asked = by-checked (checked f file) refl
    where
      by-checked : (o : Answer) → checked f file ≡ o → Asked
      by-checked (Ok n) e = by-room (accepted f file n e) (leb bytes (length out)) refl
        where
          bytes : ℕ
          bytes = 8 * length es

          long : length (entry_bytes es) ≡ bytes
          long = entries-long es

          by-room : Accepted f file → (t : Bool) → leb bytes (length out) ≡ t → Asked
          by-room a true h =
              let room = leb-true bytes (length out) h in
              listed a (told a) room
              (afterwards-value refusal out _ e ∙ (entries_fit _ _ out (omega (arith, long)) ∙ rw long))
          by-room a false h =
              let none = leb-false bytes (length out) h in
              no_room a (told a) none
              (afterwards-value refusal out _ e ∙ (falls-short _ _ out (omega (arith, long)) ∙ rw long))
      by-checked (Err r) e = file_refused e (afterwards-refused refusal out _ e)

-- of a point file, and of an address file
pub codes-asked : (points out : List ℕ) → CodesOfPoints points out
unfolding codes_outcome
codes-asked points out = entries-asked point_format points (Told points) (codes_in points) out (codes-told points)

pub main-codes-asked : (file out : List ℕ) → CodesOfAddresses file out
unfolding MainCodes.codes_outcome
main-codes-asked file out =
    entries-asked addresses file (MainTold.Told file) (MainCodes.codes_in file) out (addresses-told file)

-- ---- exactly where there is a label

-- what is refused is no value
never : {Where : Type 0} {text out : List ℕ} {o : Outcome Answer} {file : ℕ} {why : Reason}
    → o ≡ said (refusal file why) out → (Where → ⊥) → Exactly Where text out o
never {Where} {text} {out} {o} {file} {why} is not =
    record {
      only = λ {n} e. absurd (refused-value file n why (sym (answer-of is) ∙ e));
      then = λ w. absurd (not w);
    }

module _ (look : Lookup) (views : List Address) (k : ℕ) (out : List ℕ) (o : Outcome Answer) where
  printing-exactly : Printing look views k out o
      → Exactly (Prints look (kth views k) out) (text_for look (kth views k)) out o
  printing-exactly (no_number e is) = rw e (never is (λ w. w))
  printing-exactly (forbidden_mix a e p is) = rw e (never is (λ w. p w.0.0))
  printing-exactly (key_missing a e p q is) = rw e (never is (λ w. q w.0.1))
  printing-exactly (no_room a e p h is) = rw e (never is (λ w. omega (arith, w.1)))
  printing-exactly (printed a e p h is) = rw e (record { only = λ v. (p, h); then = λ w. is })

  -- the same behind a question that comes first
  printing-behind : {First : Type 0} → First → Printing look views k out o
      → Exactly (First × Prints look (kth views k) out) (text_for look (kth views k)) out o
  printing-behind first p =
      let e = printing-exactly p in record { only = λ v. (first, e.only v); then = λ w. e.then w.1 }

module _ (s : Source) (out : List ℕ) where
  is-taken : {n : ℕ} → s.judged ≡ Ok n → Taken s
  is-taken e = rw e tt

  not_taken : {file : ℕ} {why : Reason} → s.judged ≡ refusal file why → Taken s → ⊥
  not_taken e w = rw e at w

  pub view-exactly : (view : ℕ) → ViewExactly (Taken s) s view out
  view-exactly view = by-case (view-asked s out view)
    where
      by-case : ViewAsked s view out → ViewExactly (Taken s) s view out
      by-case (files_refused e is) = never is (λ w. not_taken e w.0)
      by-case (taken e p) = printing-behind s.look s.views view out (view_label s view out) (is-taken e) p

  pub code-exactly : (code : List ℕ) (k : ℕ) → CodeExactly (Taken s) s code k out
  code-exactly code k = by-case (code-asked s out code k)
    where
      by-case : CodeAsked s code k out → CodeExactly (Taken s) s code k out
      by-case (files_refused e is) = never is (λ w. not_taken e w.0)
      by-case (code_refused e fault is) = never is (λ w. fault w.1.0)
      by-case (taken e clean p) =
          let x = printing-exactly s.look (in_code code s.live) k out (code_label s code k out) p in
          record { only = λ v. (is-taken e, (clean, x.only v)); then = λ w. x.then w.1.1 }

module _ (pack : List ℕ) (k : ℕ) (out : List ℕ) where
  pub point-exactly : PointExactly pack k out
  point-exactly = by-case (point-asked pack k out)
    where
      by-case : PointAsked pack k out → PointExactly pack k out
      by-case (pack_refused e is) = rw e (never is (λ w. w))
      by-case (no_number e (inl h) is) = rw e (never is (λ w. omega (arith, w.0)))
      by-case (no_number e (inr h) is) = rw e (never is (λ w. omega (arith, w.1.0)))
      by-case (no_room e low high h is) = rw e (never is (λ w. omega (arith, w.1.1)))
      by-case (printed e low high h is) = rw e (record { only = λ v. (low, (high, h)); then = λ w. is })

-- the same of what comes to the same
pub exactly-where : {Files Others : Type 0} {Where : Type 0} {text out : List ℕ} {o : Outcome Answer} → (Files → Others)
    → (Others → Files)
    → Exactly (Files × Where) text out o
    → Exactly (Others × Where) text out o
exactly-where there back e =
    record { only = λ v. let w = e.only v in (there w.0, w.1); then = λ w. e.then (back w.0, w.1) }

-- ---- how long a label is

bounded : (e : Elements) → Fits e → Bounded e
bounded e f = record { lines = at-most-11-lines e; bytes = at-most-499 e f; each = each_line e f }

-- what follows of each address follows of all
pub all_then : (P Q : Address → Type 0) → ((a : Address) → P a → Q a) → (views : List Address) → AllOf P views
    → AllOf Q views
all_then P Q so [] h = tt
all_then P Q so (a ∷ more) h = (so a h.0, all_then P Q so more h.1)

pub all-bounded : (look : Lookup) (views : List Address) → AllOf (λ a. Fits (elements_of look a)) views
    → AllBounded look views
all-bounded look =
    all_then (λ a. Fits (elements_of look a)) (λ a. Bounded (elements_of look a)) (λ a. bounded (elements_of look a))

-- of every view of a pair of files, the table file being accepted
pub views-bounded : (table points : List ℕ) → Accepted table_format table
    → AllBounded (table_lookup table) (addresses_in points)
views-bounded table points t = all-bounded (table_lookup table) (addresses_in points) (views-fit table points t)

-- of every address of an accepted set
pub set-bounded : (s : Set) → AcceptedSet s → AllBounded (set_lookup s) (Main.addresses_in s)
set-bounded s a = all-bounded (set_lookup s) (Main.addresses_in s) (addresses-fit s a)

-- of every point of a pack that opens
pub points-bounded : (pack : List ℕ) → PointsBounded pack
points-bounded pack n k e low high = bounded _ (point-fits pack n k e low high)
