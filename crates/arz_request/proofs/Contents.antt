-- The content of a body, or the first cause why there is none.
use Rattle.std.proofs.Common.{◌≡◌, ℕ, List, Option, Ok, ap, sym, ◌∙◌}
use Rattle.arz_json.specs.Answer.{◌>>=◌, Fails}
use Rattle.arz_json.specs.declared.Json.{Json}
use Rattle.arz_expr.specs.declared.syntax.Base.{Base}
use Rattle.arz_expr.specs.declared.template.Body.{Body}
use Rattle.arz_request.specs.Causes.{Made, made_of, told}
use Rattle.arz_request.specs.MediaTypes.{media_type_of}
use Rattle.arz_request.specs.Payloads.{content, kind_of, value_of, written_as, content_as, content_of}
use Rattle.arz_request.specs.declared.body.Content.{Content}
use Rattle.arz_request.specs.declared.cause.BuildFault.{BuildFault}
use Rattle.arz_request.specs.declared.cause.BuildFault.TheVariants.{Stuck, Memory}
use Rattle.arz_request.specs.declared.media_types.MediaType.{MediaType}

module _ (found : Base → Option Json) (types : List (List ℕ)) (body : Body) (kind : List ℕ) (type : MediaType) where
  abbrev with_bytes : Json → Made Content
  with_bytes value = made_of (content kind value) (written_as kind body value)

  by-value : kind ≡ kind_of types body → type ≡ media_type_of kind → content_of found types body ≡ (value_of found type body >>= with_bytes)
  by-value k t = ap (λ k. content_as found k body) (sym k) ∙ ap (λ t. value_of found t body >>= with_bytes) (sym t)

  pub value-fails : (f : BuildFault) → kind ≡ kind_of types body → type ≡ media_type_of kind → Fails (told f) (value_of found type body) → Fails (told f) (content_of found types body)
  value-fails (Stuck why) k t e = by-value k t ∙ ap (λ m. m >>= with_bytes) e
  value-fails Memory k t e = tt

  pub bytes-fail : (f : BuildFault) (value : Json) → kind ≡ kind_of types body → type ≡ media_type_of kind → value_of found type body ≡ Ok value
      → Fails (told f) (written_as kind body value) → Fails (told f) (content_of found types body)
  bytes-fail (Stuck why) value k t v e = by-value k t ∙ ap (λ m. m >>= with_bytes) v ∙ ap (made_of (content kind value)) e
  bytes-fail Memory value k t v e = tt

  pub made : (value : Json) (bytes : List ℕ) → kind ≡ kind_of types body → type ≡ media_type_of kind → value_of found type body ≡ Ok value
      → written_as kind body value ≡ Ok bytes → content_of found types body ≡ Ok (content kind value bytes)
  made value bytes k t v e = by-value k t ∙ ap (λ m. m >>= with_bytes) v ∙ ap (made_of (content kind value)) e
