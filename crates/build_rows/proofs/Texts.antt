-- The texts of a row by its kind, and the row.
-- Assumes nothing.
use Prim.Native.Nat.{ℕ, ◌+◌}
use mathlib.Core.Path.{◌≡◌, ap, ◌∙◌}
use mathlib.Core.List.{List, [], ◌∷◌, ◌++◌}
use borrow.Author.Tests.{eq-eqb, ne_eqb}
use Rattle.field.specs.Text.{text_in}
use Rattle.source.specs.Address.{kind_of}
use Rattle.shelf.specs.declared.Shelf.{Shelf}
use Rattle.shelf.specs.Shelf.{text_width, texts_in, record_of, ref_at, texts_at}
use Rattle.shelf.specs.Stock.{stock_of}
use Rattle.pack.specs.Layout.{texts_bytes}
use Rattle.build.specs.Rows.{row_bytes_at}
use Rattle.build.specs.Bytes.{sized, two_texts}
use Rattle.build_bytes.proofs.Texts.{texts-last}

-- a row, from its record and the number that it stands for
pub row_is : (s : Shelf) (file rec : List ℕ) (i r : ℕ) → r ≡ ref_at s file i → rec ≡ record_of s file i
    → kind_of r ∷ texts_bytes (texts_in s (kind_of r) rec) ≡ row_bytes_at (stock_of s file) i
unfolding row_bytes_at texts_at
row_is s file rec i r e f = rw (e, f)

module _ (s : Shelf) (kind : ℕ) (rec : List ℕ) where
  -- the three of a locality, and the one of another kind
  pub locality-bytes : kind ≡ 1
      → sized (text_in rec s.locality (s.locality + 30))
      ++ texts_bytes (two_texts rec (s.locality + 30) (s.locality + 65) (s.locality + 100))
      ≡ texts_bytes (texts_in s kind rec)
  locality-bytes e = simp (eq-eqb kind 1 e)

  pub other-bytes : (width : ℕ) → (kind ≡ 1 → ⊥) → width ≡ text_width kind
      → sized (text_in rec s.text (s.text + width)) ≡ texts_bytes (texts_in s kind rec)
  other-bytes width n e =
      texts-last (text_in rec s.text (s.text + width))
      ∙ (ap (λ (w : ℕ). texts_bytes (text_in rec s.text (s.text + w) ∷ [])) e ∙ simp (ne_eqb kind 1 n))
