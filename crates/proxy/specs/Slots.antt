-- The memory that is lent to each call: one slab, cut into slots of one size. First a slot for each client, then one for each connection.
use Rattle.std.specs.Prelude.{ℕ, ◌+◌, ◌*◌, take, drop}
use Rattle.text.specs.Bytes.{Text}
use Rattle.request.specs.Reading.{memory_size}
use Rattle.proxy.specs.Model.{client_count}

-- so many servers there are at most
abbrev pub server_limit : ℕ
server_limit = 8

unfoldable pub slab_size : ℕ
slab_size = (client_count + server_limit) * memory_size

-- slot i
abbrev pub slot_in : ℕ → Text → Text
slot_in i memory = take memory_size (drop (i * memory_size) memory)

-- the slot of a client, and the one of a server's connection
abbrev pub client_slot : ℕ → Text → Text
client_slot c memory = slot_in c memory

abbrev pub server_slot : ℕ → Text → Text
server_slot s memory = slot_in (client_count + s) memory
