-- Where a query inside a filter begins (RFC 9535, section 2.3.5.1).
use Rattle.arz_json.specs.declared.tree.Json.{Json}
use Rattle.arz_query.specs.declared.query.Start.{Start}
use Rattle.arz_query.specs.declared.query.Start.TheVariants.{Root, Current}

-- at the root, or at the current node
abbrev pub begun : Start → Json → Json → Json
begun Root root current = root
begun Current root current = current
