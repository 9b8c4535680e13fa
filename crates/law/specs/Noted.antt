-- The ledger of the packets that the end e sends under the log-on l, and the log: when they tell the same.
use Rattle.std.specs.Prelude.{◌≡◌, ℕ, ◌/◌, ◌%◌, ◌<◌, true, false, List, ◌∷◌, ◌++◌}
use Rattle.rules.specs.Members.{Among}
use Rattle.law.specs.Ledger.{Ledger}
use Rattle.law.specs.Sound.{Last}
use Rattle.law.specs.Log.{End, other, LogOn, Entry, Log}
use Rattle.law.specs.Laws.{Accepts, HandsUp, Sends}

-- Q and RN of the ledger's packet i
abbrev pub q_of : Ledger → ℕ → ℕ
q_of L i = (L.tx.packet i).key / 4

abbrev pub rn_of : Ledger → ℕ → ℕ
rn_of L i = (L.tx.packet i).key % 4

-- the packet i in the log: its accept, where newer accepts are of later packets, and its hand-up, if it was handed up
abbrev pub NotedPacket : End → LogOn → Ledger → (ℕ → List ℕ) → Log → ℕ → Type 0
NotedPacket e l L bodies log i = record {
  newer : Log;
  accept : Entry;
  older : Log;
  splits : log ≡ newer ++ accept ∷ older;
  accepts : Accepts e l (q_of L i) (rn_of L i) (bodies i) accept;
  later : (q rn : ℕ) (xs : List ℕ) (x : Entry) → Among x newer → Accepts e l q rn xs x → (j : ℕ) × (i < j) × (j < L.tx.total) × (q_of L j ≡ q) × (rn_of L j ≡ rn);
  up : L.rx.handed i ≡ true → (x : Entry) × Among x newer × HandsUp (other e) l (q_of L i) (rn_of L i) (bodies i) x;
  not_up : Last L i → L.rx.handed i ≡ false → (xs : List ℕ) (x : Entry) → Among x newer → HandsUp (other e) l (q_of L i) (rn_of L i) xs x → ⊥;
}

abbrev pub Noted : End → LogOn → Ledger → (ℕ → List ℕ) → Log → Type 0
Noted e l L bodies log = record {
  packets : (i : ℕ) → i < L.tx.total → NotedPacket e l L bodies log i;
  sends : (n : ℕ) → n < L.tx.used → (x : Entry) × Among x log × Sends e l x × (x.slot ≡ (L.tx.sent n).slot);
}
