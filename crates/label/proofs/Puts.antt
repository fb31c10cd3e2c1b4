-- Laws of writing into a lent buffer.
-- Assumes nothing.
use Prim.Native.Nat.{ℕ, suc, ◌+◌, ◌-◌, ◌≤◌, ◌<◌}
use mathlib.Core.Path.{◌≡◌, refl, sym, ap, subst, ◌∙◌}
use mathlib.Core.List.{List, [], ◌∷◌, ◌++◌, append_assoc, append-nil}
use native.Mathlib.Omega.{arith}
use native.Mathlib.Nat.{le_of_lt, add-zero, zero-add}
use native.Mathlib.Numerals.{add-one}
use lib.ListN.{length, get_or, take, drop, set, length-append, length-drop, drop_of_length-le, take-append-drop}
use lib.Seq.{drop-cons, take-suc, set_at, take_at, drop_at, length-take-le, take_all, drop-drop, set_split}
use Rattle.label.specs.Put.{Wrote, Put}

-- a byte more is copied
pub copy_step : (p o : List ℕ) (i : ℕ) → i < length p → i < length o
    → set (take i p ++ drop i o) i (get_or p i 0) ≡ take (i + 1) p ++ drop (i + 1) o
copy_step p o i hp ho =
    ap (λ (l : List ℕ). set (take i p ++ l) i (get_or p i 0)) (drop-cons o i 0 ho)
    ∙ (set_at (take i p) (get_or o i 0) (drop (suc i) o) (get_or p i 0) i (length-take-le i p (le_of_lt hp))
    ∙ simp (add-one, take-suc p i 0 hp, append_assoc))

-- all is copied
pub copy-all : (p o : List ℕ) (i : ℕ) → length p ≤ i → i ≤ length p → take i p ++ drop i o ≡ p ++ drop (length p) o
copy-all p o i h k =
    rw (let q : i ≡ length p = omega arith in q)
    (ap (λ (l : List ℕ). l ++ drop (length p) o) (take_all (length p) p (omega arith)))

-- nothing is put
pub put-none : (o : List ℕ) (at : ℕ) → Put [] o at at o
put-none o at = record { size = sym (add-zero at); is = rw (add-zero, take-append-drop) }

pub wrote_none : (o : List ℕ) → Wrote [] o 0 o
wrote_none o = record { size = refl; is = refl }

pub put_byte : (o : List ℕ) (at b : ℕ) → at + 1 ≤ length o → Put (b ∷ []) o at (at + 1) (set o at b)
put_byte o at b h = record { size = refl; is = set_split o at b (omega arith) ∙ simp add-one }

-- there is room for the first of two texts, and after it for the second
pub room-first : (p l o : List ℕ) (at : ℕ) → at + length (p ++ l) ≤ length o → at + length p ≤ length o
room-first p l o at h = omega (arith, length-append p l)

pub room_after : {p o x : List ℕ} {at i : ℕ} (l : List ℕ) → Put p o at i x → at + length (p ++ l) ≤ length o
    → i + length l ≤ length x
room_after {p} {o} {x} {at} {i} l v h =
    omega (
      arith,
      ap length v.is,
      length-append (take at o) (p ++ drop (at + length p) o),
      length-append p (drop (at + length p) o),
      length-drop (at + length p) o,
      length-take-le at o (omega (arith, length-append p l)),
      v.size,
      length-append p l,
    )

-- a text is put, and then another after it
pub put_then : {p l o x y : List ℕ} {at i r : ℕ} → Put p o at i x → Put l x i r y → at + length (p ++ l) ≤ length o
    → Put (p ++ l) o at r y
put_then {p} {l} {o} {x} {y} {at} {i} {r} v w h =
    let fits : at + length p ≤ length o = room-first p l o at h in
    let lq : length (take at o ++ p) ≡ i =
    omega (arith, length-append (take at o) p, length-take-le at o (omega arith), v.size) in
    let ex : x ≡ (take at o ++ p) ++ drop i o =
    v.is
    ∙ (sym (append_assoc (take at o) p (drop (at + length p) o))
    ∙ ap (λ (n : ℕ). (take at o ++ p) ++ drop n o) (sym v.size)) in
    let tk : take i x ≡ take at o ++ p =
    ap (λ (z : List ℕ). take i z) ex ∙ take_at (take at o ++ p) (drop i o) i lq in
    let sz : i + length l ≡ at + length (p ++ l) = omega (arith, length-append p l, v.size) in
    let dr : drop (i + length l) x ≡ drop (at + length (p ++ l)) o =
    sym (drop-drop (length l) i x)
    ∙ (ap (λ (z : List ℕ). drop (length l) z)
    (ap (λ (z : List ℕ). drop i z) ex ∙ drop_at (take at o ++ p) (drop i o) i lq)
    ∙ (drop-drop (length l) i o ∙ ap (λ (n : ℕ). drop n o) sz)) in
    record {
      size = w.size ∙ sz;
      is =
          w.is
          ∙ rw (tk, dr)
          (append_assoc (take at o) p (l ++ drop (at + length (p ++ l)) o)
          ∙ ap (λ (z : List ℕ). take at o ++ z) (sym (append_assoc p l (drop (at + length (p ++ l)) o))));
    }

-- what is put at the front
pub wrote : {l o y : List ℕ} {r : ℕ} → Put l o 0 r y → Wrote l o r y
wrote {l} v = record { size = v.size ∙ zero-add (length l); is = v.is ∙ rw zero-add }

-- the rest of a buffer, lent and given back
pub lent : (x : List ℕ) (at : ℕ) → take (length x - at) (drop at x) ≡ drop at x
lent x at = take_all (length x - at) (drop at x) (omega (arith, length-drop at x))

pub given_back : (x ys : List ℕ) (at : ℕ) → take at x ++ (ys ++ drop (length x - at) (drop at x)) ≡ take at x ++ ys
given_back x ys at =
    let none : drop (length x - at) (drop at x) ≡ [] =
    drop_of_length-le (drop at x) {i = length x - at} (omega (arith, length-drop at x)) in
    ap (λ (z : List ℕ). take at x ++ z) (ap (λ (z : List ℕ). ys ++ z) none ∙ append-nil ys)

-- what a part that was lent from `at` says of the whole
pub put-part : (l x ys : List ℕ) (at r : ℕ) → at ≤ length x → Wrote l (take (length x - at) (drop at x)) r ys
    → Put l x at (at + r) (take at x ++ (ys ++ drop (length x - at) (drop at x)))
put-part l x ys at r h w =
    record {
      size = omega (arith, w.size);
      is =
          given_back x ys at
          ∙ ap (λ (z : List ℕ). take at x ++ z)
          (w.is
          ∙ (ap (λ (z : List ℕ). l ++ drop (length l) z) (lent x at)
          ∙ ap (λ (z : List ℕ). l ++ z) (drop-drop (length l) at x)));
    }

-- the same text, said otherwise
pub put_as : {l m o y : List ℕ} {at r : ℕ} → l ≡ m → Put l o at r y → Put m o at r y
put_as {o = o} {y = y} {at = at} {r = r} e v = subst (λ (z : List ℕ). Put z o at r y) e v

pub wrote_as : {l m o y : List ℕ} {r : ℕ} → l ≡ m → Wrote l o r y → Wrote m o r y
wrote_as {o = o} {y = y} {r = r} e v = subst (λ (z : List ℕ). Wrote z o r y) e v

-- room for a text, said otherwise
pub room_as : {l m : List ℕ} (o : List ℕ) (at : ℕ) → l ≡ m → at + length m ≤ length o → at + length l ≤ length o
room_as o at e h = omega (arith, ap length e)

-- the same at the front
pub room-front : {l m : List ℕ} (o : List ℕ) → l ≡ m → length m ≤ length o → 0 + length l ≤ length o
room-front o e h = omega (arith, ap length e)
