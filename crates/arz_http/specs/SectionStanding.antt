-- For private clauses: how a chunked section stands.
use Rattle.std.specs.Prelude.{◌≡◌, ℕ, ◌≤◌, List, length}
use Rattle.arz_http.specs.declared.fault.PeerCause.{PeerCause}
use Rattle.arz_http.specs.declared.chunks.Place.{Place}
use Rattle.arz_http.specs.declared.chunks.Place.TheVariants.{Size, Data, Break, BreakReturn, Trailer, Whole, Fault}
use Rattle.arz_http.specs.declared.chunks.Section.{Section}
use Rattle.arz_http.specs.Chunked.{section_limit}
use Rattle.arz_http.specs.ChunkSteps.{begin, moved_by}

-- more is to come, all has come, or a fault was settled
pub data Standing : Type 0 where
  taking whole : Standing
  failed : PeerCause → ℕ → Standing

abbrev pub standing_at : Place → Standing
standing_at (Size at) = taking
standing_at (Data left) = taking
standing_at Break = taking
standing_at BreakReturn = taking
standing_at (Trailer at) = taking
standing_at Whole = whole
standing_at (Fault cause at) = failed cause at

pub record IsFed (bytes : List ℕ) (s : Section) : Type 0 where
  pub same : s ≡ moved_by begin bytes
  pub fits : length bytes ≤ section_limit
  pub count : s.count ≡ length bytes
