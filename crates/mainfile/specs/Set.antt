-- A Mainfile set: "locality, thoroughfare, descriptor, building, sub building, organisation and address files", in lent
-- slices.
-- Assumes nothing.
use Rattle.std.specs.Prelude.{ℕ, List}
use Rattle.refusal.specs.Outcome.{after}
use Rattle.file.specs.Check.{checked}
use Rattle.file.specs.Mainfile as Format
use Rattle.refusal.specs.Answer.{Answer}

pub record Set : Type 0 where
  pub localities : List ℕ
  pub thoroughfares : List ℕ
  pub descriptors : List ℕ
  pub buildings : List ℕ
  pub sub_buildings : List ℕ
  pub organisations : List ℕ
  pub addresses : List ℕ

-- the set of seven files, in their order
abbrev pub set_of : (l t d b s o a : List ℕ) → Set
set_of l t d b s o a =
    record {
      localities = l;
      thoroughfares = t;
      descriptors = d;
      buildings = b;
      sub_buildings = s;
      organisations = o;
      addresses = a;
    }

-- "behind the file's number, 1 to 7 as listed and tried in that order"
unfoldable pub set_judged : Set → Answer
set_judged s =
    after (checked Format.localities s.localities)
    (after (checked Format.thoroughfares s.thoroughfares)
    (after (checked Format.descriptors s.descriptors)
    (after (checked Format.buildings s.buildings)
    (after (checked Format.sub_buildings s.sub_buildings)
    (after (checked Format.organisations s.organisations)
    (checked Format.addresses s.addresses))))))
