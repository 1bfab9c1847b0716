use Rattle.std.proofs.Common.{arith}
use Rattle.generator.proofs.Loaded.{is_loaded}
use Rattle.generator.proofs.script.demo_script.Goals as goal

pub returns-clause-form : goal.returns-clause-form
returns-clause-form c =
    record {
      campaign = omega arith;
      lines = c.new.ensures.form;
      vehicle =
          is_loaded c.args.number c.in_ok-steps.field-0 c.in_ok-packages.field-0 c.in_ok-steps.ensures
          c.in_ok-packages.ensures.made c.in_ok-packages.ensures.carried;
    }
