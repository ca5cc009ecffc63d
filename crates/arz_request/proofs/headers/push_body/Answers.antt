use Rattle.std.proofs.Common.{◌≡◌, List, [], ◌∷◌, ◌++◌, codes, Result, Ok, Err, OnOk, ap, ◌∙◌, append_assoc}
use Rattle.arz_world.specs.declared.messages.Header.{Header}
use Rattle.arz_request.specs.Requests.{header}
use Rattle.arz_request.proofs.headers.push_body.Goals as goal

-- one line, and then more
both : {X E : Type 0} (r : Result X E) (new mid old more : List Header) (h k : Header) → mid ≡ old ++ h ∷ [] → h ≡ k → OnOk r (new ≡ mid ++ more) → OnOk r (new ≡ old ++ k ∷ more)
both (Ok x) new mid old more h k first same then =
    then ∙ ap (λ lines. lines ++ more) first ∙ append_assoc old (h ∷ []) more ∙ ap (λ line. old ++ line ∷ more) same
both (Err e) new mid old more h k first same then = tt

pub returns : goal.returns
returns c =
    both c.push_length.result _ c.push_line.new.lines.items c.args.lines.now.items _ _ _ c.in_ok-push_line.ensures
    (ap (header (codes "Content-Type")) (c.as_bytes.ensures.value ∙ c.as_str.ensures)) (rw c.as_slice.ensures at c.push_length.ensures)
