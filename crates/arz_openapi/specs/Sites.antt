-- ---- for private clauses: operations as the code holds them
use Rattle.arz_operation.specs.Named.{Standing}
use Rattle.arz_openapi.specs.declared.sites.Site.{Site}

abbrev pub seen : Site → Standing
seen s = record { path = s.path.now; is_referred = s.is_referred; item = s.item.now; method = s.method.now; operation = s.operation.now }
