-- An accepted set is what a pack can be cut from, where no packed address is refused.
-- Assumes nothing.
use Prim.Native.Nat.{ℕ}
use mathlib.Core.Path.{◌≡◌}
use mathlib.Core.List.{List}
use Rattle.field_outward.specs.Outward.{outward_fault}
use Rattle.ask.specs.Source.{in_code}
use Rattle.mainfile.specs.Set.{Set}
use Rattle.mainfile.specs.Rows.{set_lookup}
use Rattle.mainfile.specs.Addresses.{addresses_in}
use Rattle.mainfile.specs.Accepted.{AcceptedSet}
use Rattle.pack.specs.Cutting.{first_bad}
use Rattle.pack.specs.Sound.{Sound}
use Rattle.pack_sound.proofs.Addresses.{addresses-sound}
use Rattle.mainfile_sound.proofs.Rows.{rows-sound}
use Rattle.mainfile_sound.proofs.Addresses.{views-fields, views-rise}
use Rattle.mainfile_sound.proofs.Size.{pack-small}
use Rattle.refusal.specs.Verdict.{fine}

pub set-sound : (s : Set) (code : List ℕ) → AcceptedSet s → outward_fault code ≡ 0
    → first_bad (set_lookup s) (in_code code (addresses_in s)) ≡ fine
    → Sound (set_lookup s) (in_code code (addresses_in s)) code
set-sound s code ok e fine =
    record {
      of_rows = rows-sound s ok.rows;
      of_addresses = addresses-sound (set_lookup s) code (addresses_in s) (views-rise s) (views-fields s ok) fine;
      of_code = e;
      small = pack-small s code ok e;
    }
