-- The sending half tied to a ledger: its window and packets are what the ledger says of the numbers from its oldest on and of the last packet of each key.
use Rattle.std.specs.Prelude.{◌≡◌, ℕ, ◌+◌, ◌%◌, ◌<◌, ◌≤◌, Bool, true, ◌⊎◌, List, length, Some, None, Option, slice_index_or}
use Rattle.law.specs.Ledger.{Status, Mark as Word, Use, Sender, Report, Ledger}
use Rattle.rules.specs.Constants.{rest, window_size}
use Rattle.rules.specs.declared.window.BduKey.{BduKey}
use Rattle.rules.specs.declared.window.Mark.{Mark}
use Rattle.rules.specs.declared.window.Progress.{Progress}
use Rattle.rules.specs.declared.window.Standing.{Standing}
use Rattle.rules.specs.Sending.{Sending, mark, packet, place, pieces}

-- the BDU that a number on its way has: none exactly if its packet is no longer pending
abbrev pub Carries : Sender → Use → Option BduKey → Type 0
Carries T u (Some b) = (T.status u.packet ≡ Status.Pending) × ((T.packet u.packet).key ≡ place b) × (u.part ≡ b.bsn)
Carries T u None = T.status u.packet ≡ Status.Pending → ⊥

-- the mark is that of the number n
abbrev pub Entry : Sender → ℕ → Mark → Type 0
Entry T n Mark.Unused = T.used ≤ n
Entry T n (Mark.OnItsWay slot bdu) = (n < T.used) × ((T.sent n).mark ≡ Word.InFlight) × ((T.sent n).slot ≡ slot) × Carries T (T.sent n) bdu
Entry T n Mark.Acknowledged = (n < T.used) × ((T.sent n).mark ≡ Word.Acked)
Entry T n Mark.Returned = (n < T.used) × ((T.sent n).mark ≡ Word.Returned)

-- some number has the piece b of packet i, with that mark
abbrev pub SomeUse : ℕ → (ℕ → Use) → ℕ → ℕ → Word → Type 0
SomeUse used sent i b w = (n : ℕ) × (n < used) × ((sent n).packet ≡ i) × ((sent n).part ≡ b) × ((sent n).mark ≡ w)

-- the progress is that of the piece b of packet i
abbrev pub Far : ℕ → (ℕ → Use) → ℕ → ℕ → Progress → Type 0
Far used sent i b Progress.Waiting = (n : ℕ) → n < used → (sent n).packet ≡ i → (sent n).part ≡ b → (sent n).mark ≡ Word.Returned
Far used sent i b Progress.OnItsWay = SomeUse used sent i b Word.InFlight
Far used sent i b Progress.Acknowledged = SomeUse used sent i b Word.Acked

-- packet j no longer keeps its reference number at the slot c
abbrev pub Gone : Sender → ℕ → ℕ → Type 0
Gone T c j = (T.status j ≡ Status.Confirmed) ⊎ ((T.status j ≡ Status.Expired) × ((T.packet j).born + rest ≤ c))

-- packet i is the last of the key p, and those before it are gone
abbrev pub Holds : Sender → ℕ → ℕ → ℕ → Type 0
Holds T c p i = record {
  known : i < T.total;
  key : (T.packet i).key ≡ p;
  others : (j : ℕ) → j < T.total → (T.packet j).key ≡ p → (j ≡ i) ⊎ ((j < i) × Gone T c j);
}

-- packet i is what stands pending, with these octets and BDUs
abbrev pub Pends : Sender → ℕ → ℕ → List ℕ → List ℕ → List Progress → Type 0
Pends T i since octets text bdus = record {
  status : T.status i ≡ Status.Pending;
  born : (T.packet i).born ≡ since;
  body : text ≡ octets;
  size : (T.packet i).size ≡ pieces octets;
  room : (T.packet i).size ≤ length bdus;
  parts : (b : ℕ) → b < (T.packet i).size → Far T.used T.sent i b (slice_index_or bdus b Progress.Waiting);
}

-- packet i is what rests
abbrev pub Rests : Sender → ℕ → ℕ → ℕ → Type 0
Rests T c i until = record {
  status : T.status i ≡ Status.Expired;
  born : (T.packet i).born + rest ≡ until;
  later : c < until;
}

-- what stands under the key p is what the ledger has under it
abbrev pub Under : Sender → ℕ → (ℕ → List ℕ) → ℕ → List ℕ → List Progress → Standing → Type 0
Under T c bodies p octets bdus Standing.Free = (j : ℕ) → j < T.total → (T.packet j).key ≡ p → Gone T c j
Under T c bodies p octets bdus (Standing.Pending since) = (i : ℕ) × Holds T c p i × Pends T i since octets (bodies i) bdus
Under T c bodies p octets bdus (Standing.Resting until) = (i : ℕ) × Holds T c p i × Rests T c i until

-- the half S is that of the ledger L, whose packet i has the octets bodies i
abbrev pub Tied : Sending → Ledger → (ℕ → List ℕ) → Type 0
Tied S L bodies = record {
  live : L.tx.live ≡ true;
  oldest : S.oldest ≡ L.tx.oldest % 256;
  nine : length S.window ≡ window_size;
  sixteen : length S.packets ≡ 16;
  entries : (k : ℕ) → Entry L.tx (L.tx.oldest + k) (mark S k);
  under : (p : ℕ) → Under L.tx L.clock bodies p (packet S p).octets (packet S p).bdus (packet S p).standing;
}

-- the report read as R and flags is the ledger's r
abbrev pub Reads : Report → ℕ → (ℕ → Bool) → Type 0
Reads r R flag = record {
  low : R ≡ r.low % 256;
  flags : (i : ℕ) → i < 8 → flag i ≡ r.flag (r.low + 1 + i);
  only : (n : ℕ) → r.flag n ≡ true → (r.low < n) × (n ≤ r.low + 8);
}
