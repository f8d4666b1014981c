-- What is known of what is asked for, as it is gone through.
use Rattle.std.specs.Prelude.{Option, Some, None, bytes_eq, if◌then◌else◌}
use Rattle.wit_lookups.specs.declared.asks.Asked.{Asked}
use Rattle.wit_lookups.specs.Names.{Name}

-- the first, or else the second
abbrev pub or_asked : Option Asked → Option Asked → Option Asked
or_asked None b = b
or_asked (Some a) b = Some a

-- as what it is asked for under a name alone
abbrev pub asked_under : Name → Asked → Name → Option Asked
asked_under text asked t = if bytes_eq text t then Some asked else None
