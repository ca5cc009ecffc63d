-- A server URL as the code holds it, seen as the address that the definitions speak of.
use Rattle.arz_target.specs.Urls.{Address, address}
use Rattle.arz_target.specs.declared.urls.ServerUrl.{ServerUrl}

abbrev pub seen : ServerUrl → Address
seen url = address url.host.now url.port url.base.now
