-- The place of a packet, where the packets of a half are in one row.
use Rattle.std.specs.Prelude.{ℕ, ◌+◌, ◌*◌}
use Rattle.rules.specs.declared.window.PacketKey.{PacketKey}

abbrev pub place : PacketKey → ℕ
place key = 4 * key.q + key.rn
