-- Each arm is its command's (proofs/Arms.antt).
use Rattle.kinds.proofs.Arms.{arms}
use borrow.Author.Rules.{rules}
use Rattle.deciding.proofs.decide.Goals as goal

ruleset by = (arms, rules)

pub enum_told-1 : goal.enum_told-1
enum_told-1 c = search by

pub record_at-requires : goal.record_at-requires
record_at-requires c = search by

pub propose-requires : goal.propose-requires
propose-requires c = search by

pub enum_told-in-Preflight : goal.enum_told-in-Preflight
enum_told-in-Preflight c = search by

pub preflight-requires : goal.preflight-requires
preflight-requires c = search by

pub enum_told-in-Commit : goal.enum_told-in-Commit
enum_told-in-Commit c = search by

pub commit-requires : goal.commit-requires
commit-requires c = search by

pub enum_told-in-FaultySign : goal.enum_told-in-FaultySign
enum_told-in-FaultySign c = search by

pub vote-requires : goal.vote-requires
vote-requires c = search by

pub enum_told-in-FaultyAcknowledge : goal.enum_told-in-FaultyAcknowledge
enum_told-in-FaultyAcknowledge c = search by

pub vote-requires-in-FaultyAcknowledge : goal.vote-requires-in-FaultyAcknowledge
vote-requires-in-FaultyAcknowledge c = search by

pub enum_told-in-Show : goal.enum_told-in-Show
enum_told-in-Show c = search by

pub show-requires : goal.show-requires
show-requires c = search by

pub enum_told-in-Draw : goal.enum_told-in-Draw
enum_told-in-Draw c = search by

pub draw-requires : goal.draw-requires
draw-requires c = search by

pub enum_told-in-Generations : goal.enum_told-in-Generations
enum_told-in-Generations c = search by

pub refuse-requires : goal.refuse-requires
refuse-requires c = search by

pub enum_told-in-Snapshot : goal.enum_told-in-Snapshot
enum_told-in-Snapshot c = search by

pub snapshot-requires : goal.snapshot-requires
snapshot-requires c = search by

pub enum_told-in-Release : goal.enum_told-in-Release
enum_told-in-Release c = search by

pub release-requires : goal.release-requires
release-requires c = search by

pub enum_told-in-Dependencies : goal.enum_told-in-Dependencies
enum_told-in-Dependencies c = search by

pub refuse-requires-in-Dependencies : goal.refuse-requires-in-Dependencies
refuse-requires-in-Dependencies c = search by

pub enum_told-in-ClientPreflight : goal.enum_told-in-ClientPreflight
enum_told-in-ClientPreflight c = search by

pub client_preflight-requires : goal.client_preflight-requires
client_preflight-requires c = search by

pub enum_told-in-Equivocating : goal.enum_told-in-Equivocating
enum_told-in-Equivocating c = search by

pub refuse-requires-in-Equivocating : goal.refuse-requires-in-Equivocating
refuse-requires-in-Equivocating c = search by

pub enum_told-in-Unknown : goal.enum_told-in-Unknown
enum_told-in-Unknown c = search by

pub refuse-requires-in-Unknown : goal.refuse-requires-in-Unknown
refuse-requires-in-Unknown c = search by

pub returns-in-Propose : goal.returns-in-Propose
returns-in-Propose c = search by

pub returns-in-Preflight : goal.returns-in-Preflight
returns-in-Preflight c = search by

pub returns-in-Commit : goal.returns-in-Commit
returns-in-Commit c = search by

pub returns-in-FaultySign : goal.returns-in-FaultySign
returns-in-FaultySign c = search by

pub returns-in-FaultyAcknowledge : goal.returns-in-FaultyAcknowledge
returns-in-FaultyAcknowledge c = search by

pub returns-in-Show : goal.returns-in-Show
returns-in-Show c = search by

pub returns-in-Draw : goal.returns-in-Draw
returns-in-Draw c = search by

pub returns-in-Generations : goal.returns-in-Generations
returns-in-Generations c = search by

pub returns-in-Snapshot : goal.returns-in-Snapshot
returns-in-Snapshot c = search by

pub returns-in-Release : goal.returns-in-Release
returns-in-Release c = search by

pub returns-in-Dependencies : goal.returns-in-Dependencies
returns-in-Dependencies c = search by

pub returns-in-ClientPreflight : goal.returns-in-ClientPreflight
returns-in-ClientPreflight c = search by

pub returns-in-Equivocating : goal.returns-in-Equivocating
returns-in-Equivocating c = search by

pub returns-in-Unknown : goal.returns-in-Unknown
returns-in-Unknown c = search by
