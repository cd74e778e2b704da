-- The rules' names. Assumes nothing.
use Rattle.std.specs.Prelude.{ℕ, List, Ok, Err, Result, codes, if◌then◌else◌}
use Rattle.std.specs.Str.{bytes_eq}
use Rattle.limits.specs.declared.rules.Rule.{Rule}
use Rattle.limits.specs.declared.rules.Rule.TheVariants.{Sink, Grow, Hint}
use Rattle.limits.specs.declared.rules.UnknownRule.{UnknownRule}

-- the name of a rule
abbrev pub rule_name : Rule → List ℕ
rule_name Sink = codes "sink"
rule_name Grow = codes "grow"
rule_name Hint = codes "hint"

-- the rule of a name, if one has it
abbrev pub rule_named : List ℕ → Result Rule UnknownRule
rule_named name =
    if bytes_eq name (rule_name Sink) then Ok Sink
    else (if bytes_eq name (rule_name Grow) then Ok Grow
    else (if bytes_eq name (rule_name Hint) then Ok Hint else Err (record {})))
