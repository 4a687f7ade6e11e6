-- The words after transactions and what software stored, in order.
use Rattle.std.specs.Prelude.{ℕ, zero, suc, List, [], ◌∷◌, ◌++◌, ◌≡◌, ◌<◌, ◌≤◌, drop, length, map, take}
use Rattle.std.proofs.Common.{arith, refl, sym, ap, ◌∙◌}
use Rattle.std.proofs.lemmas.List.{append-nil}
use Rattle.m88_isa.specs.Bus.{bus_after, bus_after_all}
use Rattle.m88_isa.specs.History.{turn_accesses}
use Rattle.m88_isa.specs.Memory.{Touch, access_of}
use Rattle.m88_isa.specs.declared.planned.Access.{Access}
use Rattle.m88_isa.specs.Machine.{Program}
use Rattle.m88_emul.specs.Extended.{Deed, aided, alone, deed_accesses, deed_at, extended_state, transactions_before}
use Rattle.m88_emul.specs.Inside.Settled.{HasNoMending, IsMended}
use Rattle.m88_emul.specs.Inside.Works.{Work, bus_after_work, mends, transacted, transacts, work_before, work_of}

-- transactions that join
made_more : (ws : List Work) (xs : List Access) → transacted (ws ++ map transacts xs) ≡ transacted ws ++ xs
unfolding transacted
made_more [] [] = refl
made_more [] (x ∷ xs) = ap (λ ys. x ∷ ys) (made_more [] xs)
made_more (transacts a ∷ ws) xs = ap (λ ys. a ∷ ys) (made_more ws xs)
made_more (mends ys ∷ ws) xs = made_more ws xs

none_done : (xs : List Access) (bus : ℕ → ℕ) → bus_after_work 0 (map transacts xs) bus ≡ bus
unfolding bus_after_work
none_done [] bus = refl
none_done (x ∷ xs) bus = none_done xs bus

pub bus_more : (done : ℕ) (ws : List Work) (xs : List Access) (bus : ℕ → ℕ) → done ≤ length (transacted ws) →
    bus_after_work done (ws ++ map transacts xs) bus ≡ bus_after_work done ws bus
unfolding bus_after_work transacted
bus_more zero [] xs bus h = none_done xs bus
bus_more (suc done) [] xs bus h = absurd (omega (arith, h))
bus_more zero (transacts a ∷ ws) xs bus h = bus_more zero ws xs bus (omega arith)
bus_more (suc done) (transacts a ∷ ws) xs bus h = bus_more done ws xs (bus_after a bus) (omega (arith, h))
bus_more done (mends ys ∷ ws) xs bus h = bus_more done ws xs (bus_after_all ys bus) h

-- what software stores at the end
made_mended : (ws : List Work) (xs : List Access) → transacted (ws ++ (mends xs ∷ [])) ≡ transacted ws
unfolding transacted
made_mended [] xs = refl
made_mended (transacts a ∷ ws) xs = ap (λ ys. a ∷ ys) (made_mended ws xs)
made_mended (mends ys ∷ ws) xs = made_mended ws xs

pub bus_mended : (done : ℕ) (ws : List Work) (xs : List Access) (bus : ℕ → ℕ) →
    bus_after_work done (ws ++ (mends xs ∷ [])) bus ≡ bus_after_all xs (bus_after_work done ws bus)
unfolding bus_after_work
bus_mended done [] xs bus = refl
bus_mended zero (transacts a ∷ ws) xs bus = bus_mended zero ws xs bus
bus_mended (suc done) (transacts a ∷ ws) xs bus = bus_mended done ws xs (bus_after a bus)
bus_mended done (mends ys ∷ ws) xs bus = bus_mended done ws xs (bus_after_all ys bus)

-- the transactions among the work of a history are its own
made_by : (ws : List Work) (d : Deed) → transacted (ws ++ work_of d) ≡ transacted ws ++ deed_accesses d
made_by ws (alone turn) = made_more ws (turn_accesses turn)
made_by ws (aided vector aid) = made_mended ws (map access_of aid.stores) ∙ sym (append-nil (transacted ws))

pub made_is : (p : Program) (n : ℕ) → transacted (work_before p n) ≡ transactions_before p n
unfolding transacted work_before transactions_before
made_is p zero = refl
made_is p (suc n) =
    made_by (work_before p n) (deed_at p (extended_state p n))
    ∙ ap (λ xs. xs ++ deed_accesses (deed_at p (extended_state p n))) (made_is p n)

-- where software stored nothing
untouched : (ws : List Work) (bus : ℕ → ℕ) → HasNoMending ws → bus_after_work 0 ws bus ≡ bus
unfolding bus_after_work HasNoMending
untouched [] bus h = refl
untouched (transacts a ∷ ws) bus h = untouched ws bus h
untouched (mends xs ∷ ws) bus h = absurd h

all_done : (ws : List Work) (bus : ℕ → ℕ) → HasNoMending ws →
    bus_after_work (length (transacted ws)) ws bus ≡ bus_after_all (transacted ws) bus
unfolding bus_after_work HasNoMending transacted bus_after_all
all_done [] bus h = refl
all_done (transacts a ∷ ws) bus h = all_done ws (bus_after a bus) h
all_done (mends xs ∷ ws) bus h = absurd h

-- one transaction more is done
pub bus_answered : (done : ℕ) (ws : List Work) (bus : ℕ → ℕ) → IsMended done ws → done < length (transacted ws) →
    bus_after_all (take 1 (drop done (transacted ws))) (bus_after_work done ws bus) ≡ bus_after_work (suc done) ws bus
unfolding bus_after_work IsMended transacted bus_after_all
bus_answered done [] bus h some = absurd (omega (arith, some))
bus_answered zero (transacts a ∷ ws) bus h some = ap (bus_after a) (untouched ws bus h) ∙ sym (untouched ws (bus_after a bus) h)
bus_answered (suc done) (transacts a ∷ ws) bus h some = bus_answered done ws (bus_after a bus) h (omega (arith, some))
bus_answered done (mends xs ∷ ws) bus h some = bus_answered done ws (bus_after_all xs bus) h some

-- all that were pending are done
pub bus_finished : (done : ℕ) (ws : List Work) (bus : ℕ → ℕ) → IsMended done ws → done ≤ length (transacted ws) →
    bus_after_all (drop done (transacted ws)) (bus_after_work done ws bus) ≡ bus_after_work (length (transacted ws)) ws bus
unfolding bus_after_work IsMended transacted bus_after_all
bus_finished zero [] bus h within = refl
bus_finished (suc done) [] bus h within = absurd (omega (arith, within))
bus_finished zero (transacts a ∷ ws) bus h within =
    ap (λ b. bus_after_all (transacted ws) (bus_after a b)) (untouched ws bus h) ∙ sym (all_done ws (bus_after a bus) h)
bus_finished (suc done) (transacts a ∷ ws) bus h within = bus_finished done ws (bus_after a bus) h (omega (arith, within))
bus_finished done (mends xs ∷ ws) bus h within = bus_finished done ws (bus_after_all xs bus) h within

-- it stays so
none_more : (ws : List Work) (xs : List Access) → HasNoMending ws → HasNoMending (ws ++ map transacts xs)
unfolding HasNoMending
none_more [] [] h = tt
none_more [] (x ∷ xs) h = none_more [] xs tt
none_more (transacts a ∷ ws) xs h = none_more ws xs h
none_more (mends ys ∷ ws) xs h = absurd h

free_mended : (done : ℕ) (ws : List Work) → HasNoMending ws → IsMended done ws
unfolding HasNoMending IsMended
free_mended done [] h = tt
free_mended zero (transacts a ∷ ws) h = h
free_mended (suc done) (transacts a ∷ ws) h = free_mended done ws h
free_mended done (mends ys ∷ ws) h = absurd h

pub mended_more : (done : ℕ) (ws : List Work) (xs : List Access) → IsMended done ws → IsMended done (ws ++ map transacts xs)
unfolding IsMended HasNoMending
mended_more done [] xs h = free_mended done (map transacts xs) (none_more [] xs tt)
mended_more zero (transacts a ∷ ws) xs h = none_more ws xs h
mended_more (suc done) (transacts a ∷ ws) xs h = mended_more done ws xs h
mended_more done (mends ys ∷ ws) xs h = mended_more done ws xs h

pub mended_again : (done : ℕ) (ws : List Work) (xs : List Access) → length (transacted ws) ≤ done → IsMended done ws →
    IsMended done (ws ++ (mends xs ∷ []))
unfolding IsMended transacted
mended_again done [] xs all h = tt
mended_again zero (transacts a ∷ ws) xs all h = absurd (omega (arith, all))
mended_again (suc done) (transacts a ∷ ws) xs all h = mended_again done ws xs (omega (arith, all)) h
mended_again done (mends ys ∷ ws) xs all h = mended_again done ws xs all h

pub mended_on : (done more : ℕ) (ws : List Work) → done ≤ more → IsMended done ws → IsMended more ws
unfolding IsMended
mended_on done more [] on h = tt
mended_on zero zero (transacts a ∷ ws) on h = h
mended_on zero (suc more) (transacts a ∷ ws) on h = free_mended more ws h
mended_on (suc done) zero (transacts a ∷ ws) on h = absurd (omega (arith, on))
mended_on (suc done) (suc more) (transacts a ∷ ws) on h = mended_on done more ws (omega (arith, on)) h
mended_on done more (mends ys ∷ ws) on h = mended_on done more ws on h

-- some stores, and then others
pub both_stored : (ts us : List Touch) (bus : ℕ → ℕ) →
    bus_after_all (map access_of (ts ++ us)) bus ≡ bus_after_all (map access_of us) (bus_after_all (map access_of ts) bus)
unfolding bus_after_all
both_stored [] us bus = refl
both_stored (t ∷ ts) us bus = both_stored ts us (bus_after (access_of t) bus)
