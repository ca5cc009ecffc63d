use Rattle.std.proofs.Common.{◌≡◌, inl, inr, List, codes, refl, ap, ◌∙◌, subst, Option, None, Some, Result, Ok, Err}
use Rattle.arz_json.specs.Look.{items_at}
use Rattle.arz_json.specs.declared.Json.{Json}
use Rattle.arz_json.specs.declared.Named.{Named}
use Rattle.arz_json.specs.declared.NamedText.{NamedText}
use Rattle.arz_json.specs.declared.Refusal.{Refusal}
use Rattle.arz_rules.specs.declared.phases.RuleFault.{RuleFault}
use Rattle.arz_rules.specs.declared.phases.RuleFault.TheVariants as rule
use Rattle.arz_rx.specs.Patterns.{PatternsView}
use Rattle.arz_world.specs.Outside.{FilesView}
use Rattle.arz_flow.specs.declared.bundle.Bundle.{Bundle}
use Rattle.arz_bundle.specs.declared.fault.LoadFault.{LoadFault}
use Rattle.arz_bundle.specs.declared.fault.LoadFault.TheVariants.{Refused}
use Rattle.arz_bundle.specs.FileTree.{Checks, GivenSources, OrMemory, load_fault}
use Rattle.arz_bundle.specs.Loading.{FromSources, AfterSources, AfterBuilt}
use Rattle.arz_bundle.specs.Phases.{steps_against, steps_told, size_told}
use Rattle.arz_bundle.specs.Setup.{servers_of, bundle_of}
use Rattle.arz_bundle.proofs.Stages.{exit, tells-refused, tells-on}
use Rattle.arz_bundle.proofs.ValidBundles.{valid-bundle}
use Rattle.arz_bundle.proofs.Wholes.{sources-given, sources-none}
use Rattle.arz_bundle.proofs.loading.from_sources.Goals as goal

abbrev given-bundle : Bundle → Result Bundle LoadFault
given-bundle b = Ok b

-- what holds of what is told against some sources and servers, where these are the ones
against : (description setup : Json) (xs sources : List Named) (vs : List NamedText) → xs ≡ sources → vs ≡ servers_of setup → (P : Option Refusal → Type 0)
    → P (steps_against description xs vs) → P (steps_told setup description sources)
against description setup xs sources vs same given P holds = subst P (ap (λ s. steps_against description s vs) same ∙ ap (λ v. steps_against description sources v) given) holds

module _ (before now : FilesView) (old new : PatternsView) (setup description : Json) where
  abbrev described : List Json
  described = items_at (codes "sourceDescriptions") description

  at-items : (items : List Json) (x : Result (List Named) LoadFault) → items ≡ described → FromSources before now old new setup items GivenSources x → FromSources before now old new setup described GivenSources x
  at-items items x is reads = subst (λ js. FromSources before now old new setup js GivenSources x) is reads

  unread : (fault : LoadFault) → FromSources before now old new setup described GivenSources (Err fault) → OrMemory (AfterBuilt before now old new setup description) (Err fault)
  unread fault reads = inl (sources-none before now old new setup described (AfterSources setup description) fault reads)

  module _ (sources : List Named) (reads : FromSources before now old new setup described GivenSources (Ok sources)) where
    refused : (o : Option Refusal) (fault : RuleFault) → Checks o (Err fault) → ((r : Refusal) → o ≡ Some r → AfterSources setup description sources (Err (Refused r)))
        → OrMemory (AfterBuilt before now old new setup description) (Err (load_fault fault))
    refused o (rule.Refused r) fails goes = inl (sources-given before now old new setup described (AfterSources setup description) sources (Err (Refused r)) reads (goes r fails))
    refused o rule.Memory fails goes = inr refl

    given : (x : Result Bundle LoadFault) → AfterSources setup description sources x → OrMemory (AfterBuilt before now old new setup description) x
    given x goes = inl (sources-given before now old new setup described (AfterSources setup description) sources x reads goes)

pub returns-in_err-sources-clause-loads : goal.returns-in_err-sources-clause-loads
returns-in_err-sources-clause-loads g c =
    let before = g.F.Files.files c.args.files.now in
    let now = g.F.Files.files c.read_sources.new.files in
    let old = g.P.Patterns.patterns c.args.rx.now in
    let new = g.P.Patterns.patterns c.read_sources.new.rx in
    let fault = c.in_err-sources.field-0.0 in
    let setup = c.args.setup in
    let description = c.args.description in
    exit (OrMemory (AfterBuilt before now old new setup description)) c.from_residual.result fault c.from_residual.ensures.1
    (unread before now old new setup description fault (at-items before now old new setup description _ (Err fault) c.items_at-described.ensures c.in_err-sources.ensures.reads))

pub returns-in_err-check_calls-clause-loads : goal.returns-in_err-check_calls-clause-loads
returns-in_err-check_calls-clause-loads g c =
    let before = g.F.Files.files c.args.files.now in
    let now = g.F.Files.files c.read_sources.new.files in
    let old = g.P.Patterns.patterns c.args.rx.now in
    let new = g.P.Patterns.patterns c.read_sources.new.rx in
    let fault = c.in_err-check_calls.field-0.0 in
    let setup = c.args.setup in
    let description = c.args.description in
    let sources = c.in_ok-sources.sources in
    exit (OrMemory (AfterBuilt before now old new setup description)) c.from_residual-in_err-check_calls.result (load_fault fault) c.from_residual-in_err-check_calls.ensures.1
    (refused before now old new setup description sources (at-items before now old new setup description _ (Ok sources) c.items_at-described.ensures c.in_ok-sources.ensures.reads)
    (steps_told setup description sources) fault
    (against description setup _ sources _ c.as_slice.ensures (c.as_slice-2.ensures ∙ c.in_ok-servers.ensures) (λ o. Checks o (Err fault)) c.in_err-check_calls.ensures)
    (tells-refused (steps_told setup description sources) _))

pub returns-in_err-check_size-clause-loads : goal.returns-in_err-check_size-clause-loads
returns-in_err-check_size-clause-loads g c =
    let before = g.F.Files.files c.args.files.now in
    let now = g.F.Files.files c.read_sources.new.files in
    let old = g.P.Patterns.patterns c.args.rx.now in
    let new = g.P.Patterns.patterns c.read_sources.new.rx in
    let fault = c.in_err-check_size.field-0.0 in
    let setup = c.args.setup in
    let description = c.args.description in
    let sources = c.in_ok-sources.sources in
    let bundle = bundle_of setup description sources in
    exit (OrMemory (AfterBuilt before now old new setup description)) c.from_residual-in_err-check_size.result (load_fault fault) c.from_residual-in_err-check_size.ensures.1
    (refused before now old new setup description sources (at-items before now old new setup description _ (Ok sources) c.items_at-described.ensures c.in_ok-sources.ensures.reads)
    (size_told bundle) fault (subst (λ b. Checks (size_told b) (Err fault)) c.in_ok-bundle.ensures c.in_err-check_size.ensures)
    (λ r is. tells-on (steps_told setup description sources) _ _
    (against description setup _ sources _ c.as_slice.ensures (c.as_slice-2.ensures ∙ c.in_ok-servers.ensures) (λ o. o ≡ None) c.in_ok-check_calls.ensures)
    (tells-refused (size_told bundle) _ r is)))

pub returns-clause-loads : goal.returns-clause-loads
returns-clause-loads g c =
    let before = g.F.Files.files c.args.files.now in
    let now = g.F.Files.files c.read_sources.new.files in
    let old = g.P.Patterns.patterns c.args.rx.now in
    let new = g.P.Patterns.patterns c.read_sources.new.rx in
    let setup = c.args.setup in
    let description = c.args.description in
    let sources = c.in_ok-sources.sources in
    let bundle = bundle_of setup description sources in
    given before now old new setup description sources (at-items before now old new setup description _ (Ok sources) c.items_at-described.ensures c.in_ok-sources.ensures.reads) _
    (tells-on (steps_told setup description sources) _ _
    (against description setup _ sources _ c.as_slice.ensures (c.as_slice-2.ensures ∙ c.in_ok-servers.ensures) (λ o. o ≡ None) c.in_ok-check_calls.ensures)
    (tells-on (size_told bundle) _ _ (subst (λ b. size_told b ≡ None) c.in_ok-bundle.ensures c.in_ok-check_size.ensures) (ap given-bundle c.in_ok-bundle.ensures)))

pub returns-clause-valid : goal.returns-clause-valid
returns-clause-valid g c =
    rw c.in_ok-bundle.ensures
    (valid-bundle (g.P.Patterns.patterns c.args.rx.now).told c.args.setup c.args.description c.in_ok-sources.sources c.requires.described c.requires.setup_nests c.requires.description_nests c.in_ok-sources.ensures.nests)
