-- The measure of `item_write::pieces::decimal_at` is the number.
-- Assumes nothing.
use Rattle.item_write.proofs.pieces.+decimal_at.Given as goal

abbrev pub decreases-decimal_at : goal.decreases-decimal_at
decreases-decimal_at l = l.n
