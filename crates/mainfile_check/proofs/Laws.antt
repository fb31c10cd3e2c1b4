-- Laws of a set that is judged.
-- Assumes nothing.
use Prim.Native.Nat.{ℕ}
use mathlib.Core.Path.{◌≡◌, refl}
use mathlib.Core.List.{List}
use Rattle.refusal.specs.Outcome.{after}
use Rattle.refusal.proofs.Outcomes.{both_values}
use Rattle.file.specs.Check.{records, checked}
use Rattle.file.specs.Mainfile as Main
use Rattle.file.proofs.Accepted.{accepted, accepts}
use Rattle.mainfile.specs.Set.{Set, set_of, set_judged}
use Rattle.mainfile.specs.Accepted.{AcceptedSet}
use Rattle.std.specs.Prelude.{Ok, Err}
use Rattle.refusal.specs.Answer.{Answer}

pub after-after : (x y z : Answer) → after (after x y) z ≡ after x (after y z)
after-after (Ok n) y z = refl
after-after (Err r) y z = refl

-- the files one behind the other, however they are grouped
pub set-in-turn : (l t d b s o a : List ℕ)
    → after (after (after (after (after (after (checked Main.localities l) (checked Main.thoroughfares t)) (checked Main.descriptors d))
    (checked Main.buildings b)) (checked Main.sub_buildings s)) (checked Main.organisations o)) (checked Main.addresses a)
    ≡ set_judged (set_of l t d b s o a)
unfolding set_judged
set-in-turn l t d b s o a =
    rw (after-after, after-after, after-after, after-after, after-after) refl

-- a set judged with a value has seven accepted files, and the value is how many records its address file has
module _ (s : Set) where
  pub set-accepted : {n : ℕ} → set_judged s ≡ Ok n → AcceptedSet s
  unfolding set_judged
  set-accepted e =
      let first = both_values (checked Main.localities s.localities) _ e in
      let second = both_values (checked Main.thoroughfares s.thoroughfares) _ first.second_is in
      let third = both_values (checked Main.descriptors s.descriptors) _ second.second_is in
      let fourth = both_values (checked Main.buildings s.buildings) _ third.second_is in
      let fifth = both_values (checked Main.sub_buildings s.sub_buildings) _ fourth.second_is in
      let sixth = both_values (checked Main.organisations s.organisations) _ fifth.second_is in
      record {
        rows =
            record {
              localities = accepted Main.localities s.localities first.first-number first.first_is;
              thoroughfares = accepted Main.thoroughfares s.thoroughfares second.first-number second.first_is;
              descriptors = accepted Main.descriptors s.descriptors third.first-number third.first_is;
              buildings = accepted Main.buildings s.buildings fourth.first-number fourth.first_is;
              sub_buildings = accepted Main.sub_buildings s.sub_buildings fifth.first-number fifth.first_is;
            };
        organisations = accepted Main.organisations s.organisations sixth.first-number sixth.first_is;
        addresses = accepted Main.addresses s.addresses sixth.second-number sixth.second_is;
      }

  -- and seven accepted files are judged so
  pub set-accepts : AcceptedSet s → set_judged s ≡ Ok (records Main.addresses s.addresses)
  unfolding set_judged
  set-accepts a =
      rw (
        accepts Main.localities s.localities a.rows.localities,
        accepts Main.thoroughfares s.thoroughfares a.rows.thoroughfares,
        accepts Main.descriptors s.descriptors a.rows.descriptors,
        accepts Main.buildings s.buildings a.rows.buildings,
        accepts Main.sub_buildings s.sub_buildings a.rows.sub_buildings,
        accepts Main.organisations s.organisations a.organisations,
      )
      (accepts Main.addresses s.addresses a.addresses)
