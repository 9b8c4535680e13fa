-- The BDU to send, found by a search in one row: the best so far against the next one.
use Rattle.std.specs.Prelude.{ℕ, zero, suc, ◌/◌, ◌%◌, Bool, true, false, cond, ◌&&◌, ◌||◌, List, get_or, Some, None, Option, ◌==◌, nat_le, nat_lt, slice_index_or}
use Rattle.rules.specs.Sending.{BduKey, Progress, Standing, Outgoing, Sending, blank, place, pieces, is_pending, Next, Idle}

-- the BDU x of the row: by q, then rn, then bsn
abbrev pub nth : ℕ → BduKey
nth x = record { q = x / 32; rn = x / 8 % 4; bsn = x % 8 }

abbrev pub is_waiting : Progress → Bool
is_waiting Progress.Waiting = true
is_waiting Progress.OnItsWay = false
is_waiting Progress.Acknowledged = false

abbrev pub since_of : Standing → ℕ
since_of Standing.Free = 0
since_of (Standing.Pending since) = since
since_of (Standing.Resting until) = 0

-- b waits, where the packets are ps
abbrev pub waiting : List Outgoing → BduKey → Bool
waiting ps b =
    let o : Outgoing = get_or ps (place b) blank in
    is_pending o.standing && (nat_lt b.bsn (pieces o.octets) && is_waiting (slice_index_or o.bdus b.bsn Progress.Waiting))

abbrev pub since : List Outgoing → BduKey → ℕ
since ps b = since_of (get_or ps (place b) blank).standing

-- b goes before c
abbrev pub goes : BduKey → ℕ → BduKey → ℕ → Bool
goes b s c t = nat_lt c.q b.q || (c.q == b.q && (nat_lt s t || (s == t && (nat_lt b.rn c.rn || (b.rn == c.rn && nat_le b.bsn c.bsn)))))

abbrev pub better : List Outgoing → Option BduKey → BduKey → Option BduKey
better ps None c = cond (waiting ps c) (Some c) None
better ps (Some b) c = cond (waiting ps c) (cond (goes b (since ps b) c (since ps c)) (Some b) (Some c)) (Some b)

-- the best of the first n
unfoldable pub chosen : List Outgoing → ℕ → Option BduKey
chosen ps zero = None
chosen ps (suc n) = better ps (chosen ps n) (nth n)

abbrev pub Chosen : Sending → Option BduKey → Type 0
Chosen S None = Idle S
Chosen S (Some b) = (t : ℕ) × Next S b t

-- the best of all 128 is the one to send
abbrev pub FindsNext : Type 0
FindsNext = (S : Sending) → Chosen S (chosen S.packets 128)
