-- The sizes that C passes for a machine, as the `Config` of the kernel.
use Rattle.model_core.specs.declared.config.Config.{Config}
use Rattle.partmem_c.specs.declared.booting.MachineConfig.{MachineConfig}

abbrev pub config_of : MachineConfig → Config
config_of config = record { order = config.order; superblocks = config.superblocks; tenants = config.tenants }
