use Rattle.std.proofs.Common.{◌≡◌, ◌&&◌, Option, Some, None, Bor, find, option_map, refl, ap, ◌∙◌}
use Rattle.std.specs.Option.{option_copied}
use Rattle.std.specs.Str.{bytes_eq}
use Rattle.arz_json.specs.declared.Location.TheVariants as place
use Rattle.arz_operation.specs.Named.{is_same}
use Rattle.arz_operation.specs.declared.types.Described.{Described}
use Rattle.arz_request.proofs.described.ByPlace.find.Goals as goal

copied-map : (o : Option (Bor Described)) → option_copied o ≡ option_map (λ d. d.now) o
copied-map None = refl
copied-map (Some d) = refl

pub returns-in-Path : goal.returns-in-Path
returns-in-Path c =
    rw c.in-Path.is (
    ap option_copied (c.copied.ensures ∙ c.get.ensures.value) ∙ copied-map _ ∙ c.self.invariant.0 c.args.name.now
    ∙ ap (λ ds. find (λ d. is_same d.place place.Path && bytes_eq d.name c.args.name.now) ds) c.self.view_is)

pub returns-in-Query : goal.returns-in-Query
returns-in-Query c =
    rw c.in-Query.is (
    ap option_copied (c.copied-in-Query.ensures ∙ c.get-in-Query.ensures.value) ∙ copied-map _ ∙ c.self.invariant.1 c.args.name.now
    ∙ ap (λ ds. find (λ d. is_same d.place place.Query && bytes_eq d.name c.args.name.now) ds) c.self.view_is)

pub returns-in-Header : goal.returns-in-Header
returns-in-Header c =
    rw c.in-Header.is (
    ap option_copied (c.copied-in-Header.ensures ∙ c.get-in-Header.ensures.value) ∙ copied-map _ ∙ c.self.invariant.2 c.args.name.now
    ∙ ap (λ ds. find (λ d. is_same d.place place.Header && bytes_eq d.name c.args.name.now) ds) c.self.view_is)

pub returns-in-Cookie : goal.returns-in-Cookie
returns-in-Cookie c =
    rw c.in-Cookie.is (
    ap option_copied (c.copied-in-Cookie.ensures ∙ c.get-in-Cookie.ensures.value) ∙ copied-map _ ∙ c.self.invariant.3 c.args.name.now
    ∙ ap (λ ds. find (λ d. is_same d.place place.Cookie && bytes_eq d.name c.args.name.now) ds) c.self.view_is)
