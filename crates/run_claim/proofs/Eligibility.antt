-- Which scripts are eligible, and which are calm, on small ones.
use Rattle.std.specs.Prelude.{◌≡◌, true, false, [], ◌∷◌, drop, replicate, Some, Ok}
use Rattle.std.proofs.Common.{refl}
use Rattle.ucm_base.specs.declared.parts.Action.TheVariants.{Install}
use Rattle.pm_types.specs.Histories.{Reading}
use Rattle.run_script.specs.declared.lines.Point.TheVariants.{Voted}
use Rattle.run_claim.specs.Script.{Step}
use Rattle.sub_core.specs.declared.subordinate.Fate.TheVariants.{Lost}
use Rattle.run_claim.specs.Eligible.{is_eligible, is_calm}
use Rattle.run_claim.proofs.Removal as removal
use Rattle.run_claim.proofs.FailingCheck as failing
use Rattle.run_claim.proofs.OtherClient as client

eligible : is_eligible removal.read removal.script ≡ true
eligible = refl

-- a cluster that fails on its node, a client, a cancel, a fate, a plan
failing_cluster : is_eligible failing.read failing.script ≡ false
failing_cluster = refl

failing_elsewhere : is_eligible failing.read
    (record failing.script { fails = record { line = 1; node = 1; name = 98 ∷ [] } ∷ [] }) ≡ true
failing_elsewhere = refl

with_client : is_eligible removal.read client.script ≡ false
with_client = refl

with_cancel : is_eligible removal.read (record removal.script { cancel = Some Voted }) ≡ false
with_cancel = refl

with_fate : is_eligible removal.read
    (record removal.script { fates = record { line = 1; node = 1; first = 1; last = 1; fate = Lost } ∷ [] }) ≡ false
with_fate = refl

with_plan : is_eligible removal.read (record removal.script { plans = 0 ∷ [] }) ≡ false
with_plan = refl

-- a cluster that isn't there is removed, or one that is there is installed
abbrev step : Step
step = record { node = 1; bytes = removal.package_1 }

not_there : is_eligible removal.read (record removal.script { installed = [] }) ≡ false
not_there = refl

abbrev installs : Reading
installs bytes =
    Ok (record {
      manifest =
          record {
            action = Install;
            name = 99 ∷ 111 ∷ 114 ∷ 101 ∷ [];
            version = 49 ∷ 46 ∷ 48 ∷ 46 ∷ 48 ∷ [];
            needs =
                [];
            sha256 = replicate 32 0;
          };
      payload = [];
    } ∷ [])

already_there : is_eligible installs removal.script ≡ false
already_there = refl

now_there : is_eligible installs (record removal.script { installed = [] }) ≡ true
now_there = refl

-- a need that no planned cluster meets
abbrev needs_more : Reading
needs_more bytes =
    Ok (record {
      manifest =
          record {
            action = Install;
            name = 97 ∷ [];
            version = 49 ∷ 46 ∷ 48 ∷ 46 ∷ 48 ∷ [];
            needs =
                record { name = 98 ∷ []; req = 42 ∷ [] } ∷ [];
            sha256 = replicate 32 0;
          };
      payload = [];
    } ∷ [])

unmet : is_eligible needs_more removal.script ≡ false
unmet = refl

-- nine steps on a node
nine_steps : is_eligible installs (record removal.script { installed = []; steps = replicate 9 step }) ≡ false
nine_steps = refl

-- clients that start no transfer are calm
calm : is_calm removal.read (record client.script { lines = drop 1 client.script.lines }) ≡ true
calm = refl

not_calm : is_calm removal.read client.script ≡ false
not_calm = refl
