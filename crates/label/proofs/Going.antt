-- Pieces that are put one behind the other: of a long text what stands already and what is left, and three at once.
-- Assumes nothing.
use Prim.Native.Nat.{ℕ, ◌+◌, ◌≤◌}
use mathlib.Core.Path.{◌≡◌, refl, sym, subst, ◌∙◌}
use mathlib.Core.List.{List, [], ◌++◌, append_assoc, append-nil}
use lib.ListN.{length}
use Rattle.label.specs.Put.{Put}
use Rattle.label.proofs.Puts.{put-none, put_then, put_as, room-first, room_after, room_as}

-- of `whole`, `rest` is to put yet; all before it stands from `start` up to `at`
pub record Going (whole rest entry : List ℕ) (start at : ℕ) (out : List ℕ) : Type 0 where
  pub done : List ℕ
  pub put : Put done entry start at out
  pub left : whole ≡ done ++ rest

pub going_start : (whole o : List ℕ) (at : ℕ) → Going whole whole o at at o
going_start whole o at = record { done = []; put = put-none o at; left = refl }

-- what is left, said otherwise
pub going-as : {whole l m o x : List ℕ} {s i : ℕ} → l ≡ m → Going whole l o s i x → Going whole m o s i x
going-as {whole} {o = o} {x = x} {s = s} {i = i} e g = subst (λ (z : List ℕ). Going whole z o s i x) e g

module _ {whole o x : List ℕ} {s i : ℕ} where
  -- there is room for what is left, and so for its first piece
  pub going-left : {rest : List ℕ} → Going whole rest o s i x → s + length whole ≤ length o → i + length rest ≤ length x
  going-left {rest} g h = room_after rest g.put (room_as o s (sym g.left) h)

  pub going-room : (l rest : List ℕ) → Going whole (l ++ rest) o s i x → s + length whole ≤ length o
      → i + length l ≤ length x
  going-room l rest g h = room-first l rest x i (going-left g h)

  -- the last piece
  pub going-last : {l y : List ℕ} {r : ℕ} → Going whole l o s i x → Put l x i r y → s + length whole ≤ length o
      → Put whole o s r y
  going-last g v h = put_as (sym g.left) (put_then g.put v (room_as o s (sym g.left) h))

  -- a piece that others follow
  pub going_step : {l y : List ℕ} {r : ℕ} (rest : List ℕ) → Going whole (l ++ rest) o s i x → Put l x i r y
      → s + length whole ≤ length o → Going whole rest o s r y
  going_step {l} rest g v h =
      let all : (g.done ++ l) ++ rest ≡ whole = append_assoc g.done l rest ∙ sym g.left in
      record {
        done = g.done ++ l;
        put = put_then g.put v (room-first (g.done ++ l) rest o s (room_as o s all h));
        left = sym all;
      }

  -- nothing is left
  pub going_end : Going whole [] o s i x → Put whole o s i x
  going_end g = put_as (sym (append-nil g.done) ∙ sym g.left) g.put

-- three pieces, one behind the other
module _ {p o x : List ℕ} {at i : ℕ} (q r : List ℕ) (h : at + length (p ++ (q ++ r)) ≤ length o)
    (v : Put p o at i x) where
  pub room-second : i + length q ≤ length x
  room-second = room-first q r x i (room_after (q ++ r) v h)

  pub room-third : {y : List ℕ} {j : ℕ} → Put q x i j y → j + length r ≤ length y
  room-third w = room_after r w (room_after (q ++ r) v h)

  pub put_three : {y z : List ℕ} {j k : ℕ} → Put q x i j y → Put r y j k z → Put (p ++ (q ++ r)) o at k z
  put_three w u = put_then v (put_then w u (room_after (q ++ r) v h)) h
