-- The BDU header in an octet: 64 times RN, 16 times Q, 8 for M, and BSN.
use Rattle.std.specs.Prelude.{◌≡◌, ℕ, ◌+◌, ◌*◌, ◌/◌, ◌%◌, ◌<◌, Bool, cond, Some, None, Option, ◌==◌}
use Rattle.frame.specs.declared.header.BduHeader.{BduHeader}

abbrev pub rn_of : ℕ → ℕ
rn_of octet = octet / 64

abbrev pub q_of : ℕ → ℕ
q_of octet = octet / 16 % 4

abbrev pub more_of : ℕ → Bool
more_of octet = octet / 8 % 2 == 1

abbrev pub bsn_of : ℕ → ℕ
bsn_of octet = octet % 8

-- the header that an octet stands for
abbrev pub header_of : ℕ → BduHeader
header_of octet = record { rn = rn_of octet; q = q_of octet; more = more_of octet; bsn = bsn_of octet }

-- the octet that stands for a header
abbrev pub header_octet : BduHeader → ℕ
header_octet h = 64 * h.rn + 16 * h.q + cond h.more 8 0 + h.bsn

-- the fields fit the octet
pub record Small (h : BduHeader) : Type 0 where
  pub rn_small : h.rn < 4
  pub q_small : h.q < 4
  pub bsn_small : h.bsn < 8

-- what comes of writing a header into an octet: an octet that reads back as the header, or none
abbrev pub HeaderWritten : BduHeader → Option ℕ → Type 0
HeaderWritten h (Some octet) = Small h × (octet ≡ header_octet h) × (header_of octet ≡ h)
HeaderWritten h None = Small h → ⊥
