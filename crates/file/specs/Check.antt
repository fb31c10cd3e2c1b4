-- When a file is accepted, and the first refusal where it is not: "Order for a file: 1, 2, 3, then record by record 4, 5,
-- 6". Everything that differs from file to file is a part of its format. Records are counted from 0 here and from 1 in
-- a refusal.
-- Assumes nothing.
use Rattle.std.specs.Prelude.{ℕ, zero, suc, ◌+◌, ◌-◌, ◌*◌, ◌/◌, Bool, cond, ◌&&◌, ◌||◌, List, leb, eqb, length}
use Rattle.file_record.specs.Parts.{record_at}
use Rattle.file_compare.specs.Order.{above}
use Rattle.refusal.specs.Refusal.{malformed_at}
use Rattle.refusal.specs.Verdict.{or_else}
use Rattle.refusal.specs.declared.Reason.TheVariants.{Length, Header, Trailer, NotAbove, Follower}
use Rattle.std.specs.Prelude.{Ok, Err}
use Rattle.refusal.specs.Answer.{Answer, refusal}
use Rattle.refusal.specs.Verdict.{Verdict, fine}

pub record Format : Type 0 where
  -- the file to blame
  pub file : ℕ
  -- bytes of a record
  pub width : ℕ
  -- the most records
  pub limit : ℕ
  -- whether a record is the header
  pub headed : List ℕ → Bool
  -- whether a record is the trailer of so many records
  pub ended : ℕ → List ℕ → Bool
  -- what the sequence compares of a record
  pub sequence : List ℕ → List ℕ
  -- where a record's first fault stands
  pub fault : List ℕ → ℕ
  -- whether a record may stand between the one before and the next
  pub between : List ℕ → List ℕ → List ℕ → Bool

module _ (f : Format) where
  abbrev pub higher : List ℕ → List ℕ → Bool
  higher before rec = above (f.sequence rec) (f.sequence before)

  -- "each record but the first of them is above the one before, compared as bytes": record i, and the one before
  abbrev pub in_sequence : ℕ → List ℕ → List ℕ → Bool
  in_sequence i before rec = eqb i 1 || higher before rec

module _ (f : Format) (file : List ℕ) where
  abbrev pub records : ℕ
  records = length file / f.width

  -- "A file is 2 to 20,000 records end to end", or to the limit of its format
  abbrev pub whole : Bool
  whole = eqb (records * f.width) (length file) && (leb 2 records && leb records f.limit)

  abbrev pub at : ℕ → List ℕ
  at i = record_at f.width file i

  abbrev pub rises : ℕ → Bool
  rises i = in_sequence f i (at (i - 1)) (at i)

  -- whether record i may stand where it does
  abbrev pub in_place : ℕ → Bool
  in_place i = f.between (at (i - 1)) (at i) (at (i + 1))

  -- record i between header and trailer: 4, 5, 6
  unfoldable pub judged : ℕ → Verdict
  judged i =
      cond (eqb (f.fault (at i)) 0)
      (cond (rises i)
      (cond (in_place i) fine (Err (Follower (i + 1))))
      (Err (NotAbove (i + 1))))
      (Err (malformed_at (i + 1) (f.fault (at i))))

-- the first refusal of k records from i on
abbrev pub scan : (ℕ → Verdict) → ℕ → ℕ → Verdict
scan judge zero i = fine
scan judge (suc k) i = or_else (judge i) (scan judge k (suc i))

module _ (f : Format) (file : List ℕ) where
  unfoldable pub verdict : Verdict
  verdict =
      cond (whole f file)
      (cond (f.headed (at f file 0))
      (cond (f.ended (records f file) (at f file (records f file - 1)))
      (scan (judged f file) (records f file - 2) 1)
      (Err (Trailer (records f file))))
      (Err Header))
      (Err Length)

  abbrev pub answered : Verdict → Answer
  answered (Ok _) = Ok (records f file)
  answered (Err why) = refusal f.file why

  -- how many records an accepted file has, or its first refusal
  unfoldable pub checked : Answer
  checked = answered verdict
