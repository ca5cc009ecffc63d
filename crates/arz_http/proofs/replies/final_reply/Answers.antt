use Rattle.std.proofs.Common.{ℕ, ◌+◌, ◌≤◌, List, length, take, sym, ◌∙◌, subst}
use Rattle.httparse.specs.Spans.{AreFieldsAt}
use Rattle.arz_http.specs.Chunked.{section_limit}
use Rattle.arz_http.specs.Standings.{Frames, IsFramed}
use Rattle.arz_http.specs.WholeReplies.{IsBodyOf}
use Rattle.arz_http.proofs.ReplyStanding.{is_framed}
use Rattle.arz_http.proofs.ReplyParts.{headers_same, names_are_texts, section_small, is_reply}
use Rattle.arz_http.proofs.replies.final_reply.Goals as goal
use Rattle.arz_http.proofs.replies.final_reply.Goals.{After-frame_of-frame}

abbrev framed : (c : After-frame_of-frame) → IsFramed c.args.head_only c.args.message.now c.args.at (c.args.at + c.args.head.len) c.frame_of-frame.result
framed c = is_framed c.args.head_only c.args.message.now c.args.spans.now c.args.at c.args.head c.frame_of-frame.result c.requires
    (subst (λ (l : List ℕ). Frames c.args.head_only l c.args.spans.now c.args.head c.frame_of-frame.result) c.window-front.ensures c.frame_of-frame.ensures)

fields : (c : After-frame_of-frame) → AreFieldsAt c.window-front.result.now c.args.spans.now c.args.head.headers c.requires.head.fields
fields c = subst (λ (l : List ℕ). AreFieldsAt l c.args.spans.now c.args.head.headers c.requires.head.fields) (sym c.window-front.ensures) c.requires.spans_are.fields

pub past_heads-requires : goal.past_heads-requires
past_heads-requires c = framed (goal.at.past_heads-requires c).After-frame_of-frame

pub headers_of-requires-clause-names : goal.headers_of-requires-clause-names
headers_of-requires-clause-names c =
    names_are_texts c.window-front.result.now (take c.args.head.headers c.args.spans.now) c.requires.head.fields (fields (goal.at.headers_of-requires-clause-names c).After-frame_of-frame) c.requires.final.head.fields

pub body_of-requires : goal.body_of-requires
body_of-requires c =
    subst (λ (l : List ℕ). length l ≤ section_limit) (sym c.behind.ensures) (section_small (framed (goal.at.body_of-requires c).After-frame_of-frame) c.in_ok-judged.ensures.1)

pub returns : goal.returns
returns c =
    let a = (goal.at.returns c).After-frame_of-frame in
    is_reply (framed a) c.in_ok-judged.ensures.1 c.args.head.code c.in_ok-headers_of.field-0 c.in_ok-body_of.field-0 c.requires.spans_are.code
    (c.in_ok-headers_of.ensures ∙ headers_same c.window-front.result.now (take c.args.head.headers c.args.spans.now) c.requires.head.fields (fields a))
    (subst (λ (l : List ℕ). IsBodyOf c.frame_of-frame.result l c.in_ok-body_of.field-0) c.behind.ensures c.in_ok-body_of.ensures)
