-- Entries in two lists, as bytes.
-- Assumes nothing.
use Prim.Native.Nat.{ℕ, ◌+◌, ◌*◌, ◌<◌}
use mathlib.Core.Path.{◌≡◌, refl, ap}
use mathlib.Core.List.{List, [], ◌∷◌, ◌++◌}
use native.Mathlib.Omega.{arith}
use native.Mathlib.Numerals.{add-one}
use lib.ListN.{length, get_or, drop}
use lib.Seq.{drop-cons}
use Rattle.tally.specs.Tally.{Entry, codes, counts}
use Rattle.tally_bytes.specs.Entries.{one_entry, entry_bytes}
use Rattle.changes_codes.specs.Codes.{pair_bytes}

-- codes and counts of entries are the entries
pub pairs-are : (es : List Entry) → pair_bytes (codes es) (counts es) ≡ entry_bytes es
pairs-are [] = refl
pairs-are (e ∷ es) = ap (λ l. one_entry e.code e.count ++ l) (pairs-are es)

-- eight bytes for each
pub pairs-long : (cs ns : List ℕ) → length ns ≡ length cs → length (pair_bytes cs ns) ≡ 8 * length cs
pairs-long [] ns e = refl
pairs-long (c ∷ cs) [] e = absurd (omega arith)
pairs-long (c ∷ cs) (n ∷ ns) e = omega (arith, pairs-long cs ns (omega arith))

-- one entry more, as the code goes
pub pairs-on : (cs ns : List ℕ) (i : ℕ) → length ns ≡ length cs → i < length cs
    → pair_bytes (drop i cs) (drop i ns)
    ≡ one_entry (get_or cs i 0) (get_or ns i 0) ++ pair_bytes (drop (i + 1) cs) (drop (i + 1) ns)
pairs-on cs ns i e h = rw (add-one i, drop-cons cs i 0 h, drop-cons ns i 0 (omega arith)) refl
