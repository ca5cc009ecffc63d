-- What one cut of a path holds.
use Rattle.std.specs.Prelude.{ℕ, List, [], ◌∷◌, ◌++◌, map, Option, Some, None}
use Rattle.std.specs.Option.{option_copied}
use Rattle.arz_target.specs.Templates.{Part, Name, Byte}
use Rattle.arz_target.specs.declared.paths.Cut.{Cut}

-- a name, or the `{` that begins none
abbrev pub opened : Option (List ℕ) → Part
opened (Some name) = Name name
opened None = Byte 123

-- the parts up to the end of the cut
abbrev pub parts_to : Cut → List Part
parts_to c = map Byte c.plain.now ++ opened (option_copied c.name) ∷ []
