-- For private clauses: places as the code holds them.
use Rattle.std.specs.Prelude.{List, map}
use Rattle.std.specs.declared.vec.Vec.{Vec}
use Rattle.std.specs.declared.alloc.Global.{Global}
use Rattle.arz_json.specs.declared.place.Place.{Place}
use Rattle.arz_json.specs.declared.place.Token.{Token}
use Rattle.arz_changes.specs.declared.groups.Way.{Way}
use Rattle.arz_changes.specs.Removal.{Places}

abbrev pub tokens_of : Way → List Token
tokens_of w = w.tokens.now

abbrev pub place_tokens : Place → List Token
place_tokens p = p.tokens

abbrev pub places_seen : List Place → Places
places_seen ps = map place_tokens ps

abbrev pub ways_seen : List Way → Places
ways_seen ws = map tokens_of ws

abbrev pub group_seen : Vec Way Global → Places
group_seen v = ways_seen v.items

abbrev pub groups_seen : List (Vec Way Global) → List Places
groups_seen vs = map group_seen vs
