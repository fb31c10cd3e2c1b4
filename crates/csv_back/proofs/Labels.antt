-- The label of elements as a row says them: that of the elements themselves, except where these are lost; there it is one
-- byte longer.
-- Assumes nothing.
use Prim.Native.Nat.{ℕ, suc, ◌+◌}
use mathlib.Core.Path.{◌≡◌, refl, sym, ap}
use mathlib.Core.Bool.{Bool, true, false, cond, not, ◌&&◌, ◌||◌, true≢false}
use mathlib.Core.List.{List, [], ◌∷◌, ◌++◌}
use native.Mathlib.Omega.{arith}
use borrow.Author.Tests.{eqb-true, eqb-false, not-true}
use lib.Dec.{eqb}
use lib.ListN.{length, length-append}
use Rattle.field.specs.Digits.{value}
use Rattle.field.proofs.Tests.{and_left, and_right}
use Rattle.source.specs.Address.{Elements, present}
use Rattle.source.specs.Resolve.{forbidden_of}
use Rattle.label.specs.Lines.{is_empty, line, box_line, spaced, street, street_line, number_text, Premises, table, fronted, places, lines_of}
use Rattle.label.specs.Label.{ended, label_of}
use Rattle.label.proofs.Places.{ended-append}
use Rattle.label.proofs.Table.{number-0}
use Rattle.csv_paf.specs.Ask.{filled, forbidden_in}
use Rattle.csv_back.specs.Back.{lost, ElementsSound}
use Rattle.csv_back.proofs.Texts.{good-empty, street-empty}
use Rattle.csv_back.proofs.Numbers.{Digits, number-back}

-- what a row says of elements: "the joined thoroughfare as the name, no descriptor, no concatenation"
abbrev pub plain_of : Elements → Elements
plain_of e =
    record {
      organisation = e.organisation;
      department = e.department;
      box = e.box;
      sub_building = e.sub_building;
      building = e.building;
      number = e.number;
      concatenation = false;
      dependent = street e.dependent e.dependent_descriptor;
      dependent_descriptor = [];
      thoroughfare = street e.thoroughfare e.descriptor;
      descriptor = [];
      double_locality = e.double_locality;
      dependent_locality = e.dependent_locality;
      town = e.town;
      outward = e.outward;
      inward = e.inward;
    }

-- ---- refusal 8

-- what it says that nothing is forbidden
record Unforbidden (sub name number street descriptor dependent dependent_descriptor : Bool) : Type 0 where
  one : sub && not (name || number) ≡ false
  two : dependent && not street ≡ false
  three : descriptor && not street ≡ false
  four : dependent_descriptor && not dependent ≡ false

unforbidden : (s b n t d p q : Bool) → forbidden_of s b n t d p q ≡ 0 → Unforbidden s b n t d p q
unforbidden s b n t d p q e =
    by_tests (s && not (b || n)) (p && not t) (d && not t) (q && not p) refl refl refl refl e
  where
    by_tests : (f g h i : Bool) → s && not (b || n) ≡ f → p && not t ≡ g → d && not t ≡ h → q && not p ≡ i
        → ◌≡◌ {A = ℕ} (cond f 1 (cond g 2 (cond (h || i) 3 0))) 0
        → Unforbidden s b n t d p q
    by_tests true g h i ef eg eh ei e = absurd (omega arith)
    by_tests false true h i ef eg eh ei e = absurd (omega arith)
    by_tests false false true i ef eg eh ei e = absurd (omega arith)
    by_tests false false false true ef eg eh ei e = absurd (omega arith)
    by_tests false false false false ef eg eh ei e = record { one = ef; two = eg; three = eh; four = ei }

-- a descriptor has its own name
own_name : (name descriptor : Bool) → not descriptor && not (not name) ≡ false → not name || descriptor ≡ true
own_name true true e = refl
own_name true false e = absurd (true≢false e)
own_name false descriptor e = refl

-- ---- lines

street-line : (name descriptor : List ℕ) → not (is_empty name) || is_empty descriptor ≡ true
    → street_line (street name descriptor) [] ≡ street_line name descriptor
street-line [] [] own = refl
street-line (y ∷ ys) [] own = refl
street-line [] (x ∷ xs) own = absurd (true≢false (sym own))
street-line (y ∷ ys) (x ∷ xs) own = refl

-- nothing is lost
table_same : (s b n : List ℕ) (y : Bool) → filled s && not (filled b || filled n) ≡ false
    → y && (filled s && (filled n && is_empty b)) ≡ false
    → table s b n false ≡ table s b n y
table_same [] [] n y rule kept = refl
table_same [] (b ∷ bs) [] y rule kept = refl
table_same [] (b ∷ bs) (n ∷ ns) y rule kept = refl
table_same (s ∷ ss) [] [] y rule kept = absurd (true≢false rule)
table_same (s ∷ ss) [] (n ∷ ns) true rule kept = absurd (true≢false kept)
table_same (s ∷ ss) [] (n ∷ ns) false rule kept = refl
table_same (s ∷ ss) (b ∷ bs) [] y rule kept = refl
table_same (s ∷ ss) (b ∷ bs) (n ∷ ns) y rule kept = refl

-- a line to put a front before
abbrev HasLine : List (List ℕ) → Type 0
HasLine [] = ⊥
HasLine (l ∷ ls) = Unit {0}

has-append : (a b : List (List ℕ)) → HasLine b → HasLine (a ++ b)
has-append [] b h = h
has-append (l ∷ ls) b h = tt

town-line : (t : List ℕ) → is_empty t ≡ false → HasLine (line t)
town-line [] h = absurd (true≢false h)
town-line (x ∷ xs) h = tt

-- a front takes its own bytes and a space
front_long : (x : ℕ) (xs : List ℕ) (ls more : List (List ℕ)) → HasLine ls
    → length (ended (fronted (x ∷ xs) ls ++ more)) ≡ suc (length xs) + 1 + length (ended (ls ++ more))
front_long x xs [] more h = absurd h
front_long x xs (l ∷ ls) more h =
    let rest = ended (ls ++ more) in
    omega (
      arith,
      length-append (spaced (x ∷ xs) l) (10 ∷ rest),
      length-append xs (32 ∷ l),
      length-append l (10 ∷ rest),
    )

-- as a line of its own and a front it takes one byte more than as one front
table-longer : (s b n : List ℕ) (ls more : List (List ℕ)) → HasLine ls → filled s && (filled n && is_empty b) ≡ true
    → length (ended ((table s b n false).lines ++ (fronted (table s b n false).front ls ++ more)))
    ≡ suc (length (ended ((table s b n true).lines ++ (fronted (table s b n true).front ls ++ more))))
table-longer [] b n ls more h gone = absurd (true≢false (sym gone))
table-longer (s ∷ ss) (b ∷ bs) [] ls more h gone = absurd (true≢false (sym gone))
table-longer (s ∷ ss) (b ∷ bs) (n ∷ ns) ls more h gone = absurd (true≢false (sym gone))
table-longer (s ∷ ss) [] [] ls more h gone = absurd (true≢false (sym gone))
table-longer (s ∷ ss) [] (n ∷ ns) ls more h gone =
    omega (
      arith,
      length-append (s ∷ ss) (10 ∷ ended (fronted (n ∷ ns) ls ++ more)),
      front_long n ns ls more h,
      front_long n (ns ++ (s ∷ ss)) ls more h,
      length-append ns (s ∷ ss),
    )

lines-longer : (a x y : List (List ℕ)) → length (ended y) ≡ suc (length (ended x))
    → length (ended (a ++ y)) ≡ suc (length (ended (a ++ x)))
lines-longer a x y h =
    omega (
      arith,
      ap length (ended-append a x),
      ap length (ended-append a y),
      length-append (ended a) (ended x),
      length-append (ended a) (ended y),
    )

-- ---- of sound elements

module _ (type : ℕ) (e : Elements) (sound : ElementsSound type e) where
  rules : Unforbidden (filled e.sub_building) (filled e.building) (present e.number) (filled e.thoroughfare)
      (filled e.descriptor) (filled e.dependent) (filled e.dependent_descriptor)
  rules = unforbidden _ _ _ _ _ _ _ sound.mix

  pub own-street : not (is_empty e.thoroughfare) || is_empty e.descriptor ≡ true
  own-street = own_name (is_empty e.thoroughfare) (is_empty e.descriptor) rules.three

  pub own-dependent : not (is_empty e.dependent) || is_empty e.dependent_descriptor ≡ true
  own-dependent = own_name (is_empty e.dependent) (is_empty e.dependent_descriptor) rules.four

  -- nor is the row
  pub plain-allowed : forbidden_in (plain_of e) ≡ 0
  unfolding forbidden_in
  plain-allowed =
      simp (
        street-empty e.thoroughfare e.descriptor own-street,
        street-empty e.dependent e.dependent_descriptor own-dependent,
        rules.one,
        rules.two,
      )

  places-back : places (plain_of e) ≡ places e
  places-back =
      rw (
        street-line e.dependent e.dependent_descriptor own-dependent,
        street-line e.thoroughfare e.descriptor own-street,
      )

  -- there is a text of a number where there is a number
  number-empty : is_empty (number_text e.number) ≡ eqb e.number 0
  unfolding value
  number-empty = by-test (eqb e.number 0) refl
    where
      some-text : (t : List ℕ) → Digits e.number t → (e.number ≡ 0 → ⊥) → is_empty t ≡ false
      some-text [] d n = absurd (n (sym d.says))
      some-text (x ∷ xs) d n = refl

      by-test : (t : Bool) → eqb e.number 0 ≡ t → is_empty (number_text e.number) ≡ t
      by-test true z = ap is_empty (sym (number-0 e.number (eqb-true e.number 0 z)))
      by-test false z =
          some-text (number_text e.number) (number-back e.number sound.number) (eqb-false e.number 0 z)

  pub label_same : lost e ≡ false → label_of (plain_of e) ≡ label_of e
  unfolding label_of lines_of lost
  label_same kept =
      rw (
        table_same e.sub_building e.building (number_text e.number) e.concatenation
            (rw number-empty rules.one) (rw number-empty kept),
        places-back,
      )

  places-line : HasLine (places e)
  places-line =
      let town = not-true (is_empty e.town) (good-empty 30 false e.town sound.town) in
      has-append (street_line e.dependent e.dependent_descriptor) _
      (has-append (street_line e.thoroughfare e.descriptor) _
      (has-append (line e.double_locality) _
      (has-append (line e.dependent_locality) (line e.town) (town-line e.town town))))

  pub label-longer : lost e ≡ true → length (label_of (plain_of e)) ≡ suc (length (label_of e))
  unfolding label_of lines_of lost
  label-longer gone =
      let more = spaced e.outward e.inward ∷ [] in
      let y : e.concatenation ≡ true = and_left e.concatenation _ gone in
      let rest = and_right e.concatenation _ gone in
      let row : Bool → Premises = table e.sub_building e.building (number_text e.number) in
      let from : Bool → List (List ℕ) = λ t. (row t).lines ++ (fronted (row t).front (places e) ++ more) in
      let box = box_line e.box in
      let department = line e.department in
      rw (places-back, y)
      (lines-longer (line e.organisation) (department ++ (box ++ from true)) (department ++ (box ++ from false))
      (lines-longer department (box ++ from true) (box ++ from false)
      (lines-longer box (from true) (from false)
      (table-longer e.sub_building e.building (number_text e.number) (places e) more places-line
      (rw number-empty rest)))))
