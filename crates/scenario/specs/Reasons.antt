-- The words that say why a line is refused.
use Rattle.std.specs.Prelude.{ℕ, List, codes}
use Rattle.scenario.specs.declared.why.Why.{Why}
use Rattle.scenario.specs.declared.why.Why.TheVariants.{Form, Value, Unknown, Twice, Limit, Bytes, Missing, Later}

abbrev pub why_text : Why → List ℕ
why_text Form = codes "form"
why_text Value = codes "value"
why_text Unknown = codes "unknown"
why_text Twice = codes "twice"
why_text Limit = codes "limit"
why_text Bytes = codes "bytes"
why_text Missing = codes "missing"
why_text Later = codes "later"
