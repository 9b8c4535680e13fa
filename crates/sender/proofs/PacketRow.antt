-- Packets of the code as the rules see them, place by place.
use Rattle.std.proofs.Common.{◌≡◌, ℕ, ◌<◌, ◌≤◌, List, [], map, length, get_or, set, sym, ap, ◌∙◌, arith, lit≤}
use lib.ListN.{length-map}
use Rattle.std.proofs.lemmas.List.{map-set, get_or-map, set_past}
use Rattle.sender.specs.Packets.{packet_of, with_bdus}
use Rattle.sender.specs.declared.packet.Packet.{Packet}
use Rattle.rules.specs.Sending.{Outgoing, blank, place, moved}
use Rattle.rules.specs.declared.window.BduKey.{BduKey}
use Rattle.rules.specs.declared.window.Progress.{Progress}
use Rattle.sender.specs.declared.standing.Tenure.{Tenure}
use Rattle.rules.proofs.Lists.{get_or_map}

-- what stands at no place
abbrev pub nothing : Packet
nothing = record { standing = Tenure.Free; octets = record { items = [] }; bdus = []; fits = lit≤ tt }

pub packet_at : (ps : List Packet) (p : ℕ) → get_or (map packet_of ps) p blank ≡ packet_of (get_or ps p nothing)
packet_at ps p = get_or_map packet_of ps nothing p

-- a packet put in its place
pub packet_put : (ps : List Packet) (p : ℕ) (x : Packet) (o : Outgoing) → packet_of x ≡ o → map packet_of (set ps p x) ≡ set (map packet_of ps) p o
packet_put ps p x o e = map-set packet_of ps p x ∙ ap (set (map packet_of ps) p) e

-- one BDU goes on, of the packet x at its place
pub packets_moved : (b : BduKey) (v : Progress) (ps : List Packet) (p : ℕ) (d y : Packet) → p ≡ place b → p < length ps → packet_of y ≡ with_bdus (set (get_or ps p d).bdus b.bsn v) (packet_of (get_or ps p d))
    → map packet_of (set ps p y) ≡ moved b v (map packet_of ps)
packets_moved b v ps p d y e l h =
    let go_on : Outgoing → Outgoing = λ o. with_bdus (set o.bdus b.bsn v) o in
    packet_put ps p y _ (h ∙ ap go_on (sym (get_or-map packet_of ps p d blank l))) ∙ ap (λ k. set (map packet_of ps) k (go_on (get_or (map packet_of ps) k blank))) e

pub packets_unmoved : (b : BduKey) (v : Progress) (ps : List Packet) → length ps ≤ place b → map packet_of ps ≡ moved b v (map packet_of ps)
packets_unmoved b v ps h = sym (set_past (map packet_of ps) (place b) _ (let e = length-map ps packet_of in omega arith))
