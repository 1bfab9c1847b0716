-- Seven messages are lost one after another, and the campaign succeeds.
use Rattle.std.specs.Prelude.{[], ◌∷◌}
use Rattle.std.proofs.Common.{refl}
use Rattle.run_claim.specs.Script.{Script}
use Rattle.sub_core.specs.declared.subordinate.Fate.TheVariants.{Lost}
use Rattle.run_claim.specs.Law.{NodeFits, IsRun}
use Rattle.run_claim.proofs.Closed.{never}
use Rattle.run_claim.proofs.Removal.{read, counted, ended, legal_1, lines_1, order_1, master_1, list_fits, left_1, cancel_fits}
use Rattle.run_claim.proofs.Removal as removal

-- the removal's script, and what becomes of seven attempts
abbrev pub script : Script
script = record removal.script { fates = record { line = 1; node = 1; first = 7; last = 13; fate = Lost } ∷ [] }

node_1 : NodeFits read script counted ended 1
node_1 = record {
  legal = record { legal = legal_1.legal; faithful = legal_1.faithful };
  lines = lines_1;
  master = record { order = order_1; decision = master_1.decision; votes = master_1.votes };
}

-- the run ends as the removal does: a message that is lost is sent again
run : IsRun read script counted ended
run = record {
  used = refl;
  replied = refl;
  list = record { legal = list_fits.legal; begins = list_fits.begins; restarts = list_fits.restarts };
  nodes = (node_1, tt);
  left = (left_1, tt);
  series = record {
    votes = (tt, (tt, (tt, (tt, (tt, (tt, (tt, (tt, (tt, tt)))))))));
    unfinished = tt;
    lines = tt;
    owned = tt;
    fit = record { each = tt; lost = tt; faults = tt; losses = tt };
  };
  cancel = cancel_fits;
  complete = record {
    open_lines = refl;
    unfinished = tt;
    settled = (refl, tt);
    entered = λ rose h. refl;
    eligible = λ rose h. refl;
    calm = λ rose h. refl;
    unactivated = λ h. never h;
  };
}
