-- Laws of writing into a lent buffer as far as it goes.
-- Assumes nothing.
use Prim.Native.Nat.{ℕ, zero, suc, ◌+◌, ◌-◌, ◌≤◌}
use mathlib.Core.Path.{◌≡◌, sym, ap, subst, ◌∙◌}
use mathlib.Core.List.{List, [], ◌∷◌, ◌++◌}
use native.Mathlib.Omega.{arith}
use native.Mathlib.Nat.{sub-zero, zero-sub, suc-sub-suc}
use lib.ListN.{length, take, drop, length-append, length-take, length-drop}
use lib.Seq.{length-take-le, take_all}
use Rattle.label.specs.Put.{Wrote, Put}
use Rattle.label.proofs.Puts.{put-none, put_then, put_as, wrote}
use Rattle.report.specs.Fed.{fitting, Fed}

-- the front of two texts
take-both : (m : ℕ) (p q : List ℕ) → take m (p ++ q) ≡ take m p ++ take (m - length p) q
take-both zero p q = rw (zero-sub (length p))
take-both (suc m) [] q = rw sub-zero
take-both (suc m) (x ∷ xs) q = rw (suc-sub-suc m (length xs)) (ap (λ (l : List ℕ). x ∷ l) (take-both m xs q))

-- nothing is fed
pub fed-none : (o : List ℕ) (at : ℕ) → at ≤ length o → Fed [] o at at o
fed-none o at h =
    record {
      start = h;
      put = put_as (sym (take_all (length o - at) [] (omega arith))) (put-none o at);
      room = h;
    }

-- what is put is no longer than the buffer
put-length : {p o x : List ℕ} {at i : ℕ} → Put p o at i x → at + length p ≤ length o → length x ≡ length o
put-length {p} {o} {x} {at} {i} v h =
    omega (
      arith,
      ap length v.is,
      length-append (take at o) (p ++ drop (at + length p) o),
      length-append p (drop (at + length p) o),
      length-drop (at + length p) o,
      length-take-le at o (omega arith),
    )

-- the text as far as the buffer goes is put
pub fed-put : {p q o x : List ℕ} {at i : ℕ} → at ≤ length o → take (length o - at) p ≡ q → Put q o at i x → Fed p o at i x
fed-put {p} {q} {o} {x} {at} {i} h e v =
    let fits : at + length q ≤ length o =
    omega (arith, ap length e, length-take (length o - at) p) in
    record {
      start = h;
      put = put_as (sym e) v;
      room = omega (arith, put-length v fits, v.size);
    }

-- a text is fed, and then another after it
pub fed_then : {p q o x y : List ℕ} {at i r : ℕ} → Fed p o at i x → Fed q x i r y → Fed (p ++ q) o at r y
fed_then {p} {q} {o} {x} {y} {at} {i} {r} v w =
    let lp = length-take (length o - at) p in
    let fits : at + length (take (length o - at) p) ≤ length o = omega (arith, v.start) in
    let same : length x ≡ length o = put-length v.put fits in
    let left : length x - i ≡ (length o - at) - length p = omega (arith, v.put.size, v.start) in
    let whole : take (length o - at) p ++ take (length x - i) q ≡ take (length o - at) (p ++ q) =
    ap (λ (n : ℕ). take (length o - at) p ++ take n q) left ∙ sym (take-both (length o - at) p q) in
    let room : at + length (take (length o - at) p ++ take (length x - i) q) ≤ length o =
    omega (
      arith,
      length-append (take (length o - at) p) (take (length x - i) q),
      length-take (length x - i) q,
      v.put.size,
      v.room,
    ) in
    record {
      start = v.start;
      put = put_as whole (put_then {p = take (length o - at) p} {l = take (length x - i) q} v.put w.put room);
      room = w.room;
    }

-- the same text, said otherwise
pub fed-as : {p q o x : List ℕ} {at r : ℕ} → p ≡ q → Fed p o at r x → Fed q o at r x
fed-as {o = o} {x = x} {at = at} {r = r} e v = subst (λ (z : List ℕ). Fed z o at r x) e v

-- what is fed from the front on
pub fed-wrote : {p o x : List ℕ} {r : ℕ} → Fed p o 0 r x → Wrote (fitting p o) o r x
fed-wrote {p} {o} v = wrote (put_as (ap (λ (n : ℕ). take n p) (sub-zero (length o))) v.put)

-- no more is written than there is room for
pub wrote_count : {l o x : List ℕ} {r : ℕ} → Wrote l o r x → r ≤ length x
wrote_count {l} {o} w = omega (arith, w.size, ap length w.is, length-append l (drop (length l) o))
