pub mod Results
pub mod Operate
pub mod MirrorLent
