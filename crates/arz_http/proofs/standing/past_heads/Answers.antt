use Rattle.std.proofs.Common.{sym, subst, refl, arith}
use Rattle.arz_http.specs.declared.frames.Frame.TheVariants as frame
use Rattle.arz_http.specs.Messages.{nothing, chunks, to_close, counted}
use Rattle.arz_http.specs.Standings.{Stands, IsSome}
use Rattle.arz_http.proofs.ReplyStanding.{none_read, nothing_whole, framed_as, framed_body, framed_bad, framed_long, start_fits}
use Rattle.arz_http.proofs.standing.past_heads.Goals as goal

pub chunks-requires : goal.chunks-requires
chunks-requires c =
    subst (IsSome c.args.head_only c.args.bytes.now c.args.start) (sym c.new.ensures)
    (none_read c.args.head_only c.args.bytes.now c.args.start (framed_body c.requires chunks (framed_as c.requires frame.Chunks c.in-Chunks.is)))

pub returns-in-Nothing : goal.returns-in-Nothing
returns-in-Nothing c = nothing_whole c.args.head_only c.args.bytes.now c.args.start (framed_body c.requires nothing (framed_as c.requires frame.Nothing c.in-Nothing.is))

pub rest_of-requires : goal.rest_of-requires
rest_of-requires c = framed_body c.requires to_close (framed_as c.requires frame.ToClose c.in-ToClose.is)

pub counted-requires : goal.counted-requires
counted-requires c =
    let f = framed_as c.requires (frame.Counted c.in-Counted.n) c.in-Counted.is in
    record { start = c.args.start; size = c.in-Counted.n; body = framed_body c.requires (counted c.in-Counted.n) f.0; small = f.1; until_is = refl }

pub overflow_add-start : goal.overflow_add-start
overflow_add-start c =
    let f = framed_as c.requires (frame.Counted c.in-Counted.n) c.in-Counted.is in
    omega (arith, f.1, start_fits (framed_body c.requires (counted c.in-Counted.n) f.0))

pub returns-in-TooLong : goal.returns-in-TooLong
returns-in-TooLong c =
    let f = framed_as c.requires frame.TooLong c.in-TooLong.is in
    subst (Stands c.args.head_only c.args.bytes.now) (sym c.faulted.ensures) (framed_long c.requires f.0 f.1 f.2)

pub returns-in-Bad : goal.returns-in-Bad
returns-in-Bad c =
    let f = framed_as c.requires frame.Bad c.in-Bad.is in
    subst (Stands c.args.head_only c.args.bytes.now) (sym c.faulted-in-Bad.ensures) (framed_bad c.requires f)
