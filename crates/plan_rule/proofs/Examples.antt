-- Worked examples: what the definitions give on small forests, computed by the definitions themselves.
-- All start at 1000 with margin 1, and every maximum TTL ends at 10000.
use Rattle.std.proofs.Common.{◌≡◌, ℕ, ◌+◌, true, List, [], ◌∷◌, Option, Some, None, refl}
use Rattle.plan_forest.specs.{declared.entry.Entry.Entry, declared.entry.Kind.TheVariants.Lease, declared.entry.Kind.TheVariants.Token, Carried.carried, Carried.carried_of, Forest.end_of, Forest.entry_at}
use Rattle.plan_forest.specs.{Over.chain, Over.chain_of, Over.is_over, Renewal.all_last, Renewal.capped, Renewal.is_granted, Renewal.renewal, Renewal.renewed}
use Rattle.plan_rule.specs.{declared.wake.Wake.Wake, Asks.asks, Asks.is_to_be_asked, Asks.with_asks, Ends.ends_after, Ends.ends_after_wake_up, Ends.ends_listed, Ends.is_asked, Forced.bound, Forced.latest_end, Reach.reach, Reach.reach_of}

token : Option ℕ → ℕ → ℕ → ℕ → Entry
token parent end step need = record { name = []; kind = Token; parent = parent; end = end; renewable = true; step = step; ceiling = Some 10000; need = need }

lease : ℕ → ℕ → ℕ → ℕ → Entry
lease of_token end step need = record { name = []; kind = Lease; parent = Some of_token; end = end; renewable = true; step = step; ceiling = Some 10000; need = need }

asked : ℕ → List ℕ → Wake
asked t entries = record { at = t; asked = entries }

-- one token, end 1060, increment 60, needed to 1200
web : List Entry
web = token None 1060 60 1200 ∷ []

-- a token, end 1100, increment 100, and its lease, end 1060, increment 60, needed to 1200
token_and_lease : List Entry
token_and_lease = token None 1100 100 0 ∷ lease 0 1060 60 1200 ∷ []

-- the same, the token's end at 1130
token_later : List Entry
token_later = token None 1130 100 0 ∷ lease 0 1060 60 1200 ∷ []

-- `web`; a token that ends at 6000; its lease, end 5000, needed to 4000, which renewals would shorten
web_base_big : List Entry
web_base_big = token None 1060 60 1200 ∷ token None 6000 60 0 ∷ lease 1 5000 60 4000 ∷ []

-- orphans a, end 1060, increment 60, needed to 1100, and b, end 1100, increment 100, needed to 1400
in_turn : List Entry
in_turn = token None 1060 60 1100 ∷ token None 1100 100 1400 ∷ []

three : List ℕ
three = 1059 ∷ 1118 ∷ 1177 ∷ []

-- the Asks: a lease is asked with its token where both are due, the token alone or not at all where it can wait
web_asks : with_asks web 1 1000 (end_of web) three ≡ asked 1059 (0 ∷ []) ∷ asked 1118 (0 ∷ []) ∷ asked 1177 (0 ∷ []) ∷ []
unfolding three web token asked with_asks asks is_to_be_asked carried carried_of chain chain_of is_over all_last capped is_granted renewal renewed ends_after_wake_up is_asked end_of entry_at
web_asks = refl

both_asks : with_asks token_and_lease 1 1000 (end_of token_and_lease) three ≡ asked 1059 (0 ∷ 1 ∷ []) ∷ asked 1118 (0 ∷ 1 ∷ []) ∷ asked 1177 (1 ∷ []) ∷ []
unfolding three token_and_lease token lease asked with_asks asks is_to_be_asked carried carried_of chain chain_of is_over all_last capped is_granted renewal renewed ends_after_wake_up is_asked end_of entry_at
both_asks = refl

later_asks : with_asks token_later 1 1000 (end_of token_later) three ≡ asked 1059 (1 ∷ []) ∷ asked 1118 (0 ∷ 1 ∷ []) ∷ asked 1177 (1 ∷ []) ∷ []
unfolding three token_later token lease asked with_asks asks is_to_be_asked carried carried_of chain chain_of is_over all_last capped is_granted renewal renewed ends_after_wake_up is_asked end_of entry_at
later_asks = refl

long_lease_is_left : with_asks web_base_big 1 1000 (end_of web_base_big) three ≡ asked 1059 (0 ∷ []) ∷ asked 1118 (0 ∷ []) ∷ asked 1177 (0 ∷ []) ∷ []
unfolding three web_base_big token lease asked with_asks asks is_to_be_asked carried carried_of chain chain_of is_over all_last capped is_granted renewal renewed ends_after_wake_up is_asked end_of entry_at
long_lease_is_left = refl

-- the ends that they leave, and those that asking every entry at each moment leaves
web_ends : ends_listed web (ends_after web 1 (end_of web) (with_asks web 1 1000 (end_of web) three)) ≡ 1237 ∷ []
unfolding three web token asked with_asks asks is_to_be_asked carried carried_of chain chain_of is_over all_last capped is_granted renewal renewed ends_after_wake_up is_asked end_of entry_at ends_listed ends_after
web_ends = refl

both_ends : ends_listed token_and_lease (ends_after token_and_lease 1 (end_of token_and_lease) (asked 1059 (0 ∷ 1 ∷ []) ∷ asked 1118 (0 ∷ 1 ∷ []) ∷ asked 1177 (0 ∷ 1 ∷ []) ∷ [])) ≡ 1277 ∷ 1237 ∷ []
unfolding token_and_lease token lease asked chain chain_of all_last capped is_granted renewal renewed ends_after_wake_up is_asked end_of entry_at ends_listed ends_after
both_ends = refl

too_late : ends_listed web (ends_after web 1 (end_of web) (asked 1060 (0 ∷ []) ∷ [])) ≡ 1060 ∷ []
unfolding web token asked chain chain_of all_last capped is_granted renewal renewed ends_after_wake_up is_asked end_of entry_at ends_listed ends_after
too_late = refl

-- carried needs
token_carries : carried token_and_lease 1000 0 ≡ 1200
unfolding token_and_lease token lease carried carried_of chain chain_of is_over entry_at
token_carries = refl

nothing_to_carry : carried web 1200 0 ≡ 0
unfolding web token carried carried_of chain chain_of is_over entry_at
nothing_to_carry = refl

-- bounds: a forces the wake-up at 1059, b those at 1158, 1257 and 1356, each the margin before its bound
first_bound : bound in_turn (end_of in_turn) None 0 ≡ 1059 + 1
unfolding in_turn token bound latest_end end_of entry_at
first_bound = refl

second_bound : bound in_turn (end_of in_turn) (Some 1059) 1 ≡ 1158 + 1
unfolding in_turn token bound latest_end capped renewal end_of entry_at
second_bound = refl

third_bound : bound in_turn (end_of in_turn) (Some 1158) 1 ≡ 1257 + 1
unfolding in_turn token bound latest_end capped renewal end_of entry_at
third_bound = refl

last_bound : bound in_turn (end_of in_turn) (Some 1356) 1 ≡ 1456
unfolding in_turn token bound latest_end capped renewal end_of entry_at
last_bound = refl

-- reach: the ceiling, or the end where no renewal can be granted any more
web_reach : reach web 1 1000 (end_of web) 0 ≡ Some 10000
unfolding web token reach reach_of end_of entry_at
web_reach = refl

ended_reach : reach web 1 1060 (end_of web) 0 ≡ Some 1060
unfolding web token reach reach_of end_of entry_at
ended_reach = refl
