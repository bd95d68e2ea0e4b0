-- What a message says, apart from where its name lies in memory.
use Rattle.sr_streams.specs.declared.message.Message.{Message}
use Rattle.sr_streams.specs.Messages.{Said}

abbrev pub said : Message → Said
said message = record { name = message.name.now; counter = message.counter }
