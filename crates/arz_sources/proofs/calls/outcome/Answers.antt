use Rattle.std.proofs.Common.{Option, Result, Ok, Err, sym, ap, subst, ◌∙◌}
use Rattle.arz_json.specs.Answer.{Gives}
use Rattle.arz_rules.specs.Phases.{cause}
use Rattle.arz_rules.specs.declared.phases.RuleFault.{RuleFault}
use Rattle.arz_operation.specs.declared.types.Operation.{Operation}
use Rattle.arz_openapi.specs.Parts.{found}
use Rattle.arz_sources.specs.Served.{seen_source}
use Rattle.arz_sources.proofs.Searches.{told-none, told-operation, told-rule}
use Rattle.arz_sources.proofs.calls.outcome.Goals as goal

pub returns-in-Ok-Some : goal.returns-in-Ok-Some
returns-in-Ok-Some c = λ s h.
    let P : Result (Option Operation) RuleFault → Type 0 = λ f. Gives (λ (o : Option Operation). o) cause f (found c.args.source.now.operations s) in
    sym (told-operation (seen_source c.args.source.now) s c.in-Ok-Some.operation (subst P (c.in-Ok-Some.is ∙ ap Ok c.in-Ok-Some.field-0-is) h))

pub returns-in-Ok-None : goal.returns-in-Ok-None
returns-in-Ok-None c = λ s h.
    let P : Result (Option Operation) RuleFault → Type 0 = λ f. Gives (λ (o : Option Operation). o) cause f (found c.args.source.now.operations s) in
    sym (told-none (seen_source c.args.source.now) s (subst P (c.in-Ok-None.is ∙ ap Ok c.in-Ok-None.field-0-is) h))

pub returns-in-Err-Refused : goal.returns-in-Err-Refused
returns-in-Err-Refused c = λ s h.
    let P : Result (Option Operation) RuleFault → Type 0 = λ f. Gives (λ (o : Option Operation). o) cause f (found c.args.source.now.operations s) in
    sym (told-rule (seen_source c.args.source.now) s c.in-Err-Refused.refusal (subst P (c.in-Err-Refused.is ∙ ap Err c.in-Err-Refused.field-0-is) h))
