-- The last fields of a trailer, put one behind the other.
-- Assumes nothing.
use Prim.Native.Nat.{ℕ, ◌+◌, ◌≤◌}
use mathlib.Core.List.{List, [], ◌∷◌, ◌++◌}
use lib.ListN.{length}
use Rattle.label.specs.Put.{Put}
use Rattle.label.proofs.Going.{Going, going_start, going_step}
use Rattle.pack.specs.Names.{newest}
use Rattle.pack.specs.Numbers.{bytes_of}
use Rattle.build.specs.Bytes.{trailer_end}

module _ (code : List ℕ) (bytes : ℕ) (counts : List ℕ) where
  -- what stands behind the code, and behind the pack's length
  abbrev pub behind_length : List ℕ
  behind_length = counts ++ (newest ∷ [])

  abbrev pub behind_code : List ℕ
  behind_code = bytes_of 4 bytes ++ behind_length

  module _ {out : List ℕ} {at : ℕ} (h : at + length (trailer_end code bytes counts) ≤ length out) where
    end-start : Going (trailer_end code bytes counts) (code ++ behind_code) out at at out
    end-start = going_start (trailer_end code bytes counts) out at

    module _ {x : List ℕ} {i : ℕ} (v : Put code out at i x) where
      pub after-code : Going (trailer_end code bytes counts) behind_code out at i x
      after-code = going_step behind_code end-start v h

      module _ {y : List ℕ} {j : ℕ} (w : Put (bytes_of 4 bytes) x i j y) where
        pub after-length : Going (trailer_end code bytes counts) behind_length out at j y
        after-length = going_step behind_length after-code w h

        pub after-counts : {z : List ℕ} {k : ℕ} → Put counts y j k z
            → Going (trailer_end code bytes counts) (newest ∷ []) out at k z
        after-counts u = going_step (newest ∷ []) after-length u h
