-- The limits, as definitions name them: the constants of the code.
use Rattle.std.specs.Prelude.{ℕ, ◌^◌}
use Rattle.ucm_base.specs.declared.limits.TheConstants.{CLIENT_LIMIT, NODE_LIMIT, CLUSTER_LIMIT, NAME_LIMIT, TEXT_LIMIT, NEED_LIMIT, MANIFEST_LIMIT, MANIFESTS_LIMIT, PART_LIMIT, PACKAGE_LIMIT, VEHICLE_LIMIT, CARRIED_LIMIT, STEP_LIMIT, PLAN_LIMIT, TRANSFER_LIMIT, BLOCK_LIMIT, FILL_LIMIT, HEX_LIMIT, LAST_ID, TIME_LIMIT, LINE_LIMIT, ATTEMPT_LIMIT, CAMPAIGN_LIMIT, INPUT_LIMIT}

abbrev pub client_limit : ℕ
client_limit = CLIENT_LIMIT

abbrev pub node_limit : ℕ
node_limit = NODE_LIMIT

abbrev pub cluster_limit : ℕ
cluster_limit = CLUSTER_LIMIT

abbrev pub name_limit : ℕ
name_limit = NAME_LIMIT

abbrev pub text_limit : ℕ
text_limit = TEXT_LIMIT

abbrev pub need_limit : ℕ
need_limit = NEED_LIMIT

abbrev pub manifest_limit : ℕ
manifest_limit = MANIFEST_LIMIT

abbrev pub manifests_limit : ℕ
manifests_limit = MANIFESTS_LIMIT

abbrev pub part_limit : ℕ
part_limit = PART_LIMIT

abbrev pub package_limit : ℕ
package_limit = PACKAGE_LIMIT

abbrev pub vehicle_limit : ℕ
vehicle_limit = VEHICLE_LIMIT

abbrev pub carried_limit : ℕ
carried_limit = CARRIED_LIMIT

abbrev pub step_limit : ℕ
step_limit = STEP_LIMIT

abbrev pub plan_limit : ℕ
plan_limit = PLAN_LIMIT

abbrev pub transfer_limit : ℕ
transfer_limit = TRANSFER_LIMIT

abbrev pub block_limit : ℕ
block_limit = BLOCK_LIMIT

abbrev pub fill_limit : ℕ
fill_limit = FILL_LIMIT

abbrev pub hex_limit : ℕ
hex_limit = HEX_LIMIT

abbrev pub last_id : ℕ
last_id = LAST_ID

abbrev pub time_limit : ℕ
time_limit = TIME_LIMIT

abbrev pub line_limit : ℕ
line_limit = LINE_LIMIT

abbrev pub attempt_limit : ℕ
attempt_limit = ATTEMPT_LIMIT

abbrev pub campaign_limit : ℕ
campaign_limit = CAMPAIGN_LIMIT

abbrev pub input_limit : ℕ
input_limit = INPUT_LIMIT

-- the entries that a node's history may have
abbrev pub entry_limit : ℕ
entry_limit = 2 ^ 60
