-- The last talk goes on, and the disk stays.
use Rattle.std.proofs.Common.{◌≡◌, ℕ, Bool, false, List, [], ◌∷◌, ◌++◌, refl, ◌∙◌, ap}
use Rattle.arz_world.specs.World.{WorldView, LinkCall, on_last, with_sent, with_received}
use Rattle.arz_world.specs.declared.messages.Server.{Server}
use Rattle.arz_world.specs.declared.world.Talk.{Talk}
use Rattle.arz_world.proofs.Moments.{later_refl, later_trans}
use Rattle.arz_exchange.specs.Conversing.{LinkRun, Said}

on_last_push : (f : Talk → Talk) (before : List Talk) (t : Talk) → on_last f (before ++ t ∷ []) ≡ before ++ f t ∷ []
on_last_push f [] t = refl
on_last_push f (b ∷ []) t = refl
on_last_push f (b ∷ c ∷ before) t = ap (λ (l : List Talk). b ∷ l) (on_last_push f (c ∷ before) t)

pub said_sent : (before : List Talk) (server : Server) (bytes : List ℕ) (old new : List Talk) → Said before server [] [] false old → new ≡ on_last (with_sent bytes) old
    → Said before server bytes [] false new
said_sent before server bytes old new said is = record {
  talks_are = is ∙ ap (on_last (with_sent bytes)) said.talks_are ∙ on_last_push (with_sent bytes) before (record { server = server; sent = []; received = []; closed = false });
}

pub said_received : (before : List Talk) (server : Server) (sent received piece : List ℕ) (closes : Bool) (old new : List Talk) → Said before server sent received false old
    → new ≡ on_last (with_received piece closes) old → Said before server sent (received ++ piece) closes new
said_received before server sent received piece closes old new said is = record {
  talks_are = is ∙ ap (on_last (with_received piece closes)) said.talks_are
      ∙ on_last_push (with_received piece closes) before (record { server = server; sent = sent; received = received; closed = false });
}

pub run_none : (w : WorldView) → LinkRun w w
run_none w = record { time = later_refl w; images = λ image left. left; file = refl; attached = refl; disk_faults = refl }

pub run_on : (a b c : WorldView) → LinkRun a b → LinkCall b c → LinkRun a c
run_on a b c run call = record {
  time = later_trans a b c run.time call.time.later;
  images = λ image left. run.images image (call.images image left);
  file = call.file ∙ run.file;
  attached = call.attached ∙ run.attached;
  disk_faults = call.disk_faults ∙ run.disk_faults;
}

pub run_joined : (a b c : WorldView) → LinkRun a b → LinkRun b c → LinkRun a c
run_joined a b c one two = record {
  time = later_trans a b c one.time two.time;
  images = λ image left. one.images image (two.images image left);
  file = two.file ∙ one.file;
  attached = two.attached ∙ one.attached;
  disk_faults = two.disk_faults ∙ one.disk_faults;
}
