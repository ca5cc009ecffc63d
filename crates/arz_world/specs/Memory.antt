-- The files and the sink that stand in memory, as contracts see them.
use Rattle.std.specs.Prelude.{ℕ, List, [], ◌∷◌, ◌++◌, Bool, ◌==◌, ◌||◌, ◌+◌, ◌-◌, ◌^◌, min, count_by}
use Rattle.std.specs.List.{find, list_any}
use Rattle.std.specs.Option.{option_map, is_none}
use Rattle.std.specs.Str.{bytes_eq}
use Rattle.std.specs.declared.option.Option.{Option}
use Rattle.arz_world.specs.declared.memory_files.NamedBytes.{NamedBytes}

-- files in memory, the numbers of the calls that fail, how many calls were made, and the path of
-- each read that failed
pub record FilesInMemory : Type 0 where
  pub files : List NamedBytes
  pub failing : List ℕ
  pub calls : ℕ
  pub failed : List (List ℕ)

-- a sink in memory: the bytes that it holds, the numbers of the calls that fail, how many calls
-- were made, and how many failed
pub record SinkInMemory : Type 0 where
  pub held : List ℕ
  pub failing : List ℕ
  pub calls : ℕ
  pub faults : ℕ

-- the bytes of the first entry with this path
abbrev pub found : List NamedBytes → List ℕ → Option (List ℕ)
found files path = option_map (λ f. f.bytes) (find (λ f. bytes_eq f.path path) files)

-- how often the path stands in the list
abbrev pub times : List (List ℕ) → List ℕ → ℕ
times paths path = count_by (λ p. bytes_eq p path) paths

-- one more, or the largest u64
abbrev pub next : ℕ → ℕ
next n = min (n + 1) (2 ^ 64 - 1)

-- the call with this number is one that fails
abbrev pub is_due : List ℕ → ℕ → Bool
is_due failing call = list_any (λ n. n == call) failing

-- the next read of this path fails
abbrev pub read_fails : FilesInMemory → List ℕ → Bool
read_fails m path = is_due m.failing (next m.calls) || is_none (found m.files path)

-- the files after one more call
abbrev pub files_called : FilesInMemory → FilesInMemory
files_called m = record m { calls = next m.calls }

-- the files after a call that failed to read this path
abbrev pub files_failed : FilesInMemory → List ℕ → FilesInMemory
files_failed m path = record m { calls = next m.calls; failed = m.failed ++ path ∷ [] }

-- the next put fails
abbrev pub put_fails : SinkInMemory → Bool
put_fails s = is_due s.failing (next s.calls)

-- the sink after one more call that put these bytes
abbrev pub sink_put : SinkInMemory → List ℕ → SinkInMemory
sink_put s bytes = record s { held = s.held ++ bytes; calls = next s.calls }

-- the sink after one more call that failed
abbrev pub sink_failed : SinkInMemory → SinkInMemory
sink_failed s = record s { calls = next s.calls; faults = next s.faults }

-- the sink after one more call that put nothing and was no fault
abbrev pub sink_called : SinkInMemory → SinkInMemory
sink_called s = record s { calls = next s.calls }
