-- What a borrow of what a handle keeps gives back.
use Rattle.std.specs.Prelude.{Some}
use base.Fml.{Fml}
use denote.Ref.{MutBor}
use Rattle.std.specs.Borrow.{follows}
use Rattle.sr_c.specs.declared.handle.Handle.{Handle}
use Rattle.sr_c.specs.contracts.handle.Handle.{the_row as handle_row}
use Rattle.sr_endpoint.specs.contracts.endpoint.Endpoint.{the_row}

-- h with the value w
abbrev pub with_value : Handle → the_row.Denot → Handle
with_value h w = record { at = h.at; alloc = h.alloc; value = Some w }

-- once the borrow r ends, the handle behind h holds the last value written through r
abbrev pub handle_follows : MutBor Handle → MutBor the_row.Denot → Fml
handle_follows h r = follows handle_row the_row h.ghost_name r.ghost_name (with_value h.now)
