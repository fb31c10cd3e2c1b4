-- Those found, and those of the places that are left.
-- Assumes nothing.
use Rattle.std.proofs.Common.{◌≡◌, ◌-◌, ◌≤◌, ◌++◌, suc, length, take}
use Rattle.book.specs.Layout.{slots}
use Rattle.book_source.specs.Starts.{starts_from, starts_in}
use Rattle.book_source.proofs.inner.starts_in.Given as goal

abbrev pub invariant-loop-place : goal.invariant-loop-place
invariant-loop-place l =
    record {
      long : length l.at ≡ slots;
      few : l.many ≤ l.place-index;
      found :
          take l.many l.at ++ starts_from l.code l.book (l.count - l.place-index) (suc l.place-index)
          ≡ starts_in l.code l.book;
    }
