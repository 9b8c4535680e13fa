-- Frames come back from their octets, and octets from their fields.
use Rattle.std.proofs.Common.{◌≡◌, ℕ, ◌+◌, ◌-◌, ◌*◌, ◌/◌, ◌%◌, ◌^◌, ◌<◌, ◌≤◌, true, List, [], ◌∷◌, length, get_or, sym, refl, ap, ◌∙◌, arith, rules}
use native.Mathlib.Nat.{div-div-eq-div-mul}
use Rattle.std.proofs.lemmas.List.{take_all}
use Rattle.frame.specs.Directions.{data_kind, report_kind, kind_octet, way_of}
use Rattle.frame.specs.Frames.{CarriesData, CarriesReport, OnlyGoes, kind_at, header_at, payload_at}
use Rattle.frame.specs.Headers.{Small, header_of, header_octet}
use Rattle.frame.specs.Writing.{data_octets, report_octets}
use Rattle.frame.specs.declared.header.BduHeader.{BduHeader}
use Rattle.frame.specs.declared.kind.Way.{Way}
use Rattle.frame.specs.declared.kind.Way.TheVariants.{Up, Down}
use Rattle.frame.specs.declared.reader.Frame.TheVariants.{Data, Report}

-- a header comes back from its octet
pub header_back : (h : BduHeader) → Small h → header_of (header_octet h) ≡ h
header_back h small = search rules

-- a number of four octets comes back from them
quotients : (l q r s : ℕ) → l / 256 ≡ q → q / 256 ≡ r → r / 256 ≡ s → s < 256 → ((s % 256 * 256 + r % 256) * 256 + q % 256) * 256 + l % 256 ≡ l
quotients l q r s d e f k = omega arith

pub log_on_back : (l : ℕ) → l < 2 ^ 32 → ((l / 16777216 % 256 * 256 + l / 65536 % 256) * 256 + l / 256 % 256) * 256 + l % 256 ≡ l
log_on_back l k =
    quotients l (l / 256) (l / 65536) (l / 16777216) refl (div-div-eq-div-mul l 256 256) (div-div-eq-div-mul l 65536 256) (omega arith)

data_kind_low : (way : Way) → (1 ≤ kind_octet (data_kind way)) × (kind_octet (data_kind way) ≤ 2)
data_kind_low Up = (omega arith, omega arith)
data_kind_low Down = (omega arith, omega arith)

report_kind_high : (way : Way) → (3 ≤ kind_octet (report_kind way)) × (kind_octet (report_kind way) ≤ 4)
report_kind_high Up = (omega arith, omega arith)
report_kind_high Down = (omega arith, omega arith)

-- a data frame's fields come back from the octets written from them
pub data_back : (way : Way) (aircraft log_on number : ℕ) (header : BduHeader) (payload : List ℕ)
    → 1 ≤ aircraft → aircraft ≤ 254 → log_on < 2 ^ 32 → Small header → (header.more ≡ true → header.bsn < 7)
    → 1 ≤ length payload → length payload ≤ 53 → (header.more ≡ true → length payload ≡ 53)
    → CarriesData (data_octets way aircraft log_on number header payload) way aircraft log_on number header payload
data_back way aircraft log_on number header payload al ah ll small last some most full =
    let back = header_back header small in
    let k = data_kind_low way in
    record {
      readable = record {
        kind_low = k.0;
        kind_high = omega arith;
        aircraft_low = al;
        aircraft_high = ah;
        data_long = λ _. omega arith;
        data_short = λ _. omega arith;
        data_full = λ _ m. let f = full (sym (ap (λ (h : BduHeader). h.more) back) ∙ m) in omega arith;
        data_last = λ _ m. let f = last (sym (ap (λ (h : BduHeader). h.more) back) ∙ m) in let e = ap (λ (h : BduHeader). h.bsn) back in omega arith;
        report_length = λ h. absurd (omega arith);
      };
      kind = refl;
      same_aircraft = refl;
      same_log_on = sym (log_on_back log_on ll);
      same_number = refl;
      same_header = sym back;
      same_payload = sym (take_all (length (data_octets way aircraft log_on number header payload) - 8) payload (omega arith));
    }

-- a report's fields come back from the octets written from them
pub report_back : (way : Way) (aircraft log_on oldest flags : ℕ) → 1 ≤ aircraft → aircraft ≤ 254 → log_on < 2 ^ 32
    → CarriesReport (report_octets way aircraft log_on oldest flags) way aircraft log_on oldest flags
report_back way aircraft log_on oldest flags al ah ll =
    let k = report_kind_high way in
    record {
      readable = record {
        kind_low = omega arith;
        kind_high = k.1;
        aircraft_low = al;
        aircraft_high = ah;
        data_long = λ h. absurd (omega arith);
        data_short = λ h. absurd (omega arith);
        data_full = λ h. absurd (omega arith);
        data_last = λ h. absurd (omega arith);
        report_length = λ _. refl;
      };
      kind = refl;
      same_aircraft = refl;
      same_log_on = sym (log_on_back log_on ll);
      same_oldest = refl;
      same_flags = refl;
    }

-- the kind octet tells the way
same_way : (v w : Way) → (kind_octet (data_kind v) ≡ kind_octet (data_kind w)) → v ≡ w
same_way Up Up e = refl
same_way Up Down e = absurd (omega arith)
same_way Down Up e = absurd (omega arith)
same_way Down Down e = refl

pub data_goes : (bs : List ℕ) (way : Way) → kind_at bs ≡ kind_octet (data_kind way) → OnlyGoes way bs
data_goes bs way k (Data on number bdu) s = same_way (way_of number) way (sym s.kind ∙ k)
data_goes bs way k (Report on oldest flags) s =
    let r = report_kind_high (way_of oldest) in let d = data_kind_low way in let e = s.kind in absurd (omega arith)

same_report_way : (v w : Way) → (kind_octet (report_kind v) ≡ kind_octet (report_kind w)) → v ≡ w
same_report_way Up Up e = refl
same_report_way Up Down e = absurd (omega arith)
same_report_way Down Up e = absurd (omega arith)
same_report_way Down Down e = refl

pub report_goes : (bs : List ℕ) (way : Way) → kind_at bs ≡ kind_octet (report_kind way) → OnlyGoes way bs
report_goes bs way k (Report on oldest flags) s = same_report_way (way_of oldest) way (sym s.kind ∙ k)
report_goes bs way k (Data on number bdu) s =
    let r = report_kind_high way in let d = data_kind_low (way_of number) in let e = s.kind in absurd (omega arith)

-- an octet comes back from its header
octet_back : (octet : ℕ) → octet < 256 → header_octet (header_of octet) ≡ octet
octet_back octet small = search rules

-- four octets come back from their number
octets_back : (a b c d l : ℕ) → a < 256 → b < 256 → c < 256 → d < 256 → l ≡ ((a * 256 + b) * 256 + c) * 256 + d
    → (l / 16777216 % 256 ≡ a) × (l / 65536 % 256 ≡ b) × (l / 256 % 256 ≡ c) × (l % 256 ≡ d)
octets_back a b c d l ha hb hc hd e = (omega arith, omega arith, omega arith, omega arith)

-- a list of eight octets or more, from the first eight and the rest
eight : (bs : List ℕ) → 8 ≤ length bs → (a b c d e f g h : ℕ) (rest : List ℕ) → get_or bs 0 0 ≡ a → b ≡ get_or bs 1 0
    → c ≡ get_or bs 2 0 → d ≡ get_or bs 3 0 → e ≡ get_or bs 4 0 → f ≡ get_or bs 5 0 → g ≡ get_or bs 6 0 → h ≡ get_or bs 7 0 → rest ≡ payload_at bs
    → bs ≡ a ∷ b ∷ c ∷ d ∷ e ∷ f ∷ g ∷ h ∷ rest
eight (a ∷ b ∷ c ∷ d ∷ e ∷ f ∷ g ∷ h ∷ bs) l _ _ _ _ _ _ _ _ rest ea eb ec ed ee ef eg eh er =
    let all = take_all (length (a ∷ b ∷ c ∷ d ∷ e ∷ f ∷ g ∷ h ∷ bs) - 8) bs (omega arith) in cc
eight [] l _ _ _ _ _ _ _ _ rest ea eb ec ed ee ef eg eh er = absurd (omega arith)
eight (a ∷ []) l _ _ _ _ _ _ _ _ rest ea eb ec ed ee ef eg eh er = absurd (omega arith)
eight (a ∷ b ∷ []) l _ _ _ _ _ _ _ _ rest ea eb ec ed ee ef eg eh er = absurd (omega arith)
eight (a ∷ b ∷ c ∷ []) l _ _ _ _ _ _ _ _ rest ea eb ec ed ee ef eg eh er = absurd (omega arith)
eight (a ∷ b ∷ c ∷ d ∷ []) l _ _ _ _ _ _ _ _ rest ea eb ec ed ee ef eg eh er = absurd (omega arith)
eight (a ∷ b ∷ c ∷ d ∷ e ∷ []) l _ _ _ _ _ _ _ _ rest ea eb ec ed ee ef eg eh er = absurd (omega arith)
eight (a ∷ b ∷ c ∷ d ∷ e ∷ f ∷ []) l _ _ _ _ _ _ _ _ rest ea eb ec ed ee ef eg eh er = absurd (omega arith)
eight (a ∷ b ∷ c ∷ d ∷ e ∷ f ∷ g ∷ []) l _ _ _ _ _ _ _ _ rest ea eb ec ed ee ef eg eh er = absurd (omega arith)

-- nothing stands behind eight octets
nothing : (bs : List ℕ) → length bs ≡ 8 → payload_at bs ≡ []
nothing bs l = rw l refl

-- every data frame has the octets that are written from its fields
pub data_rewritten : (bs : List ℕ) → ((i : ℕ) → get_or bs i 0 < 256) → (way : Way) (aircraft log_on number : ℕ) (header : BduHeader) (payload : List ℕ)
    → CarriesData bs way aircraft log_on number header payload → bs ≡ data_octets way aircraft log_on number header payload
data_rewritten bs small way aircraft log_on number header payload s =
    let k = data_kind_low way in
    let e = s.kind in
    let long = s.readable.data_long (omega arith) in
    let four = octets_back (get_or bs 2 0) (get_or bs 3 0) (get_or bs 4 0) (get_or bs 5 0) log_on (small 2) (small 3) (small 4) (small 5) s.same_log_on in
    let last = ap header_octet s.same_header ∙ octet_back (header_at bs) (small 7) in
    eight bs (omega arith) _ _ _ _ _ _ _ _ payload s.kind s.same_aircraft four.0 four.1 four.2 four.3 s.same_number last s.same_payload

-- every report has the octets that are written from its fields
pub report_rewritten : (bs : List ℕ) → ((i : ℕ) → get_or bs i 0 < 256) → (way : Way) (aircraft log_on oldest flags : ℕ)
    → CarriesReport bs way aircraft log_on oldest flags → bs ≡ report_octets way aircraft log_on oldest flags
report_rewritten bs small way aircraft log_on oldest flags s =
    let k = report_kind_high way in
    let e = s.kind in
    let long = s.readable.report_length (omega arith) in
    let four = octets_back (get_or bs 2 0) (get_or bs 3 0) (get_or bs 4 0) (get_or bs 5 0) log_on (small 2) (small 3) (small 4) (small 5) s.same_log_on in
    eight bs (omega arith) _ _ _ _ _ _ _ _ [] s.kind s.same_aircraft four.0 four.1 four.2 four.3 s.same_oldest s.same_flags (sym (nothing bs long))
